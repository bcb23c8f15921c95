-- Blobs, heads and resets are read exactly where they are spelled.
use Rattle.std.proofs.Common.{◌≡◌, ◌≤◌, ℕ, zero, suc, Bool, true, false, cond, List, [], ◌∷◌, ◌++◌, length, Option, Some, None, Ok, refl, sym, ap, ◌∙◌, arith, nat_eq, leb, leb-true, le-leb, subst, eqb, eqb-true, append-nil, append_assoc}
use Rattle.std.specs.Prelude.{codes, ◌&&◌}
use Rattle.std.specs.List.{starts_with}
use Rattle.git_objects.specs.declared.limits.TheConstants.{BLOB_BYTES, MESSAGE_BYTES}
use Rattle.git_objects.specs.declared.quantity.Quantity.{Quantity}
use Rattle.git_objects.specs.declared.quantity.Quantity.TheVariants as limits
use Rattle.git_objects.specs.Paths.{Bytes}
use Rattle.git_objects.specs.Idents.{is_ident}
use Rattle.git_objects.specs.CommitBodies.{strip}
use Rattle.git_objects.proofs.CommitReading.{strip-spelled, strip-read}
use Rattle.git_objects.proofs.TreeReading.{then_some}
use Rattle.path_names.specs.RefNames.{is_ref_name}
use Rattle.tag_objects.specs.TagNames.{is_tag_name}
use Rattle.stream_lex.specs.Lines.{Input, Line}
use Rattle.stream_lex.specs.Spelling.{NextLine, TakesBlock}
use Rattle.stream_reader.specs.declared.fault.Feature.TheVariants.{Delimiter, Encoding, Signature}
use Rattle.stream_reader.specs.declared.fault.StreamFault.{StreamFault}
use Rattle.stream_reader.specs.declared.fault.StreamFault.TheVariants.{Syntax, Unsupported, Limit}
use Rattle.stream_reader.specs.declared.command.Command.{Command}
use Rattle.stream_reader.specs.declared.command.Command.TheVariants as commands
use Rattle.stream_reader.specs.declared.command.CommitHead.{CommitHead}
use Rattle.stream_reader.specs.declared.command.TagHead.{TagHead}
use Rattle.stream_reader.specs.declared.commit_ref.CommitRef.{CommitRef}
use Rattle.path_names.specs.Words.{number, number_from}
use Rattle.git_objects.specs.Results.{◌>>=◌}
use Rattle.stream_lex.specs.Cutting.{◌then◌, pure, judged, refuse}
use Rattle.stream_reader.specs.Reading.{Judged, Reader, or_fault, fault, option_line, need_line}
use Rattle.stream_reader.specs.Names.{refname, tag_name, ident}
use Rattle.stream_reader.specs.Blocks.{count, whole_block, sized_block, data_behind, blob_data, message_behind, message_data, tag_data}
use Rattle.stream_reader.specs.Heads.{said, mark_in, mark_lines, blob, author_in, author_or, committer_of, people, ref_in, ref_line, more_merges, merges, merges_max, parents, head_of, head, reset, behind_word, must_say, tagger_in, tag}
use Rattle.stream_reader.specs.Spelling.{NoWord, OptionLine, Said, WordLine, HasData, HasMarks, HasBlob, HasPeople, HasMerges, HasParents, HasHead, HasTag}
use Rattle.stream_reader.proofs.SpelledLines.{Reads, bind_ok, ok_is, or_ok, Then, then_reads, Same, pure_reads, Told, judged_reads, convert, option_line-reads, need_line-reads, said-reads, whole_block-reads}

-- ---- data

abbrev Sized : ℕ → ℕ → Input → Bytes → Input → Type 0
Sized most n i b j = (n ≤ most) × TakesBlock i b j × (length b ≡ n)

sized_was : (which : Quantity) (most at n : ℕ) (i : Input) (b : Bytes) (j : Input) → sized_block which most at n true i ≡ Ok (b, j) → Sized most n i b j
sized_was which most at n i b j e =
    elim (leb n most) as (λ t. leb n most ≡ t → cond t (whole_block at n) (refuse (Limit at which)) true i ≡ Ok (b, j) → Sized most n i b j) [
      | true ↦ λ p q. let w = (whole_block-reads at n).was i b j q in (leb-true n most p, w.0, w.1)
      | false ↦ λ p q. absurd cc
    ] refl e

sized_again : (which : Quantity) (most at n : ℕ) (i : Input) (b : Bytes) (j : Input) → Sized most n i b j → sized_block which most at n true i ≡ Ok (b, j)
sized_again which most at n i b j h =
    ap (λ t. cond t (whole_block at n) (refuse (Limit at which)) true i) (le-leb n most h.0) ∙ (whole_block-reads at n).again i b j (h.1, h.2)

sized-reads : (which : Quantity) (most at n : ℕ) → Reads (sized_block which most at n) (Sized most n)
sized-reads which most at n = record { was = sized_was which most at n; again = sized_again which most at n }

-- what stands behind this line
abbrev pub DataLine : ℕ → Line → Input → Bytes → Input → Type 0
DataLine most l i b j = (digits : Bytes) × (l.bytes ≡ codes "data " ++ digits) × (number digits ≡ Some (length b)) × (length b ≤ most) × TakesBlock i b j

-- a text behind `data <<` is no number
no_number : (b : Bool) (t : Bytes) → cond b (number_from 0 (60 ∷ t)) None ≡ None
no_number true t = refl
no_number false t = refl

-- a line `data N` begins with nothing else
not_delimiter : (t : Bytes) (n : ℕ) → number t ≡ Some n → starts_with nat_eq (codes "data " ++ t) (codes "data <<") ≡ false
unfolding number
not_delimiter [] n e = refl
not_delimiter (x ∷ t) n e =
    elim (eqb 60 x) as (λ b. eqb 60 x ≡ b → starts_with nat_eq (codes "data " ++ x ∷ t) (codes "data <<") ≡ false) [
      | false ↦ λ p. rw p refl
      | true ↦ λ p.
          let s : x ≡ 60 = sym (eqb-true 60 x p) in
          let m : number (x ∷ t) ≡ None = ap (λ y. number (y ∷ t)) s ∙ no_number (leb 1 (length (60 ∷ t)) && leb (length (60 ∷ t)) 18) t in
          absurd cc
    ] refl

abbrev counted : Quantity → ℕ → Line → Reader Bytes
counted which most l = judged (or_fault (Syntax l.place) (count l.bytes)) then sized_block which most l.place

counted-reads : (which : Quantity) (most : ℕ) (l : Line) → Reads (counted which most l) (Then (Told (or_fault (Syntax l.place) (count l.bytes))) (Sized most))
counted-reads which most l =
    then_reads (judged (or_fault (Syntax l.place) (count l.bytes))) (sized_block which most l.place) (Told (or_fault (Syntax l.place) (count l.bytes))) (Sized most)
    (judged_reads (or_fault (Syntax l.place) (count l.bytes))) (sized-reads which most l.place)

counted_was : (most : ℕ) (l : Line) (i : Input) (b : Bytes) (j : Input) → Then (Told (or_fault (Syntax l.place) (count l.bytes))) (Sized most) i b j → DataLine most l i b j
counted_was most l i b j h =
    let s = then_some number (strip (codes "data ") l.bytes) h.0 (or_ok (Syntax l.place) (count l.bytes) h.0 h.2.0) in (
      s.0,
      strip-spelled (codes "data ") l.bytes s.0 s.1,
      s.2 ∙ ap Some (sym h.3.2),
      omega (arith, h.3.0, h.3.2),
      subst (λ k. TakesBlock k b j) (sym h.2.1) h.3.1,
    )

counted_again : (most : ℕ) (l : Line) (i : Input) (b : Bytes) (j : Input) → DataLine most l i b j → Then (Told (or_fault (Syntax l.place) (count l.bytes))) (Sized most) i b j
counted_again most l i b j h =
    let c : count l.bytes ≡ Some (length b) = ap count h.1 ∙ h.2 in (length b, i, (ap (or_fault (Syntax l.place)) c, refl), (h.3, h.4, refl))

data_behind_was : (which : Quantity) (most : ℕ) (l : Line) (i : Input) (b : Bytes) (j : Input) → data_behind which most l true i ≡ Ok (b, j) → DataLine most l i b j
unfolding data_behind
data_behind_was which most l i b j e =
    elim (starts_with nat_eq l.bytes (codes "data <<")) as (λ t. cond t (refuse (Unsupported l.place Delimiter)) (counted which most l) true i ≡ Ok (b, j) → DataLine most l i b j) [
      | true ↦ λ q. absurd cc
      | false ↦ λ q. counted_was most l i b j ((counted-reads which most l).was i b j q)
    ] e

data_behind_again : (which : Quantity) (most : ℕ) (l : Line) (i : Input) (b : Bytes) (j : Input) → DataLine most l i b j → data_behind which most l true i ≡ Ok (b, j)
unfolding data_behind
data_behind_again which most l i b j h =
    ap (λ t. cond t (refuse (Unsupported l.place Delimiter)) (counted which most l) true i) (ap (λ x. starts_with nat_eq x (codes "data <<")) h.1 ∙ not_delimiter h.0 (length b) h.2)
    ∙ (counted-reads which most l).again i b j (counted_again most l i b j h)

data_behind-reads : (which : Quantity) (most : ℕ) (l : Line) → Reads (data_behind which most l) (DataLine most l)
data_behind-reads which most l = record { was = data_behind_was which most l; again = data_behind_again which most l }

data_has : (most : ℕ) (i : Input) (b : Bytes) (j : Input) → Then NextLine (DataLine most) i b j → HasData most i b j
data_has most i b j h = record {
  digits = record { place = h.0.place; bytes = h.3.0 };
  behind = h.1;
  line = record { line = h.0; next = h.2; place = refl; bytes = h.3.1 };
  count = h.3.2;
  within = h.3.3;
  block = h.3.4;
}

data_then : (most : ℕ) (i : Input) (b : Bytes) (j : Input) → HasData most i b j → Then NextLine (DataLine most) i b j
data_then most i b j h = (h.line.line, h.behind, h.line.next, (h.digits.bytes, h.line.bytes, h.count, h.within, h.block))

pub blob_data-reads : Reads blob_data (HasData BLOB_BYTES)
unfolding blob_data
blob_data-reads =
    convert blob_data (Then NextLine (DataLine BLOB_BYTES)) (HasData BLOB_BYTES)
    (then_reads need_line (data_behind limits.Blob BLOB_BYTES) NextLine (DataLine BLOB_BYTES) need_line-reads (data_behind-reads limits.Blob BLOB_BYTES))
    (data_has BLOB_BYTES) (data_then BLOB_BYTES)

message_was : (l : Line) (i : Input) (b : Bytes) (j : Input) → message_behind l true i ≡ Ok (b, j) → DataLine MESSAGE_BYTES l i b j
message_was l i b j e =
    elim (starts_with nat_eq l.bytes (codes "encoding ")) as (λ t. cond t (refuse (Unsupported l.place Encoding))
    (cond (starts_with nat_eq l.bytes (codes "gpgsig ")) (refuse (Unsupported l.place Signature)) (data_behind limits.Message MESSAGE_BYTES l)) true i ≡ Ok (b, j) → DataLine MESSAGE_BYTES l i b j) [
      | true ↦ λ q. absurd cc
      | false ↦ λ q.
          elim (starts_with nat_eq l.bytes (codes "gpgsig ")) as (λ t. cond t (refuse (Unsupported l.place Signature)) (data_behind limits.Message MESSAGE_BYTES l) true i ≡ Ok (b, j) → DataLine MESSAGE_BYTES l i b j) [
            | true ↦ λ p. absurd cc
            | false ↦ λ p. data_behind_was limits.Message MESSAGE_BYTES l i b j p
          ] q
    ] e

no_encoding : (t : Bytes) → starts_with nat_eq (codes "data " ++ t) (codes "encoding ") ≡ false
no_encoding t = refl

no_signature : (t : Bytes) → starts_with nat_eq (codes "data " ++ t) (codes "gpgsig ") ≡ false
no_signature t = refl

message_again : (l : Line) (i : Input) (b : Bytes) (j : Input) → DataLine MESSAGE_BYTES l i b j → message_behind l true i ≡ Ok (b, j)
message_again l i b j h =
    ap (λ t. cond t (refuse (Unsupported l.place Encoding)) (cond (starts_with nat_eq l.bytes (codes "gpgsig ")) (refuse (Unsupported l.place Signature)) (data_behind limits.Message MESSAGE_BYTES l)) true i)
    (ap (λ x. starts_with nat_eq x (codes "encoding ")) h.1 ∙ no_encoding h.0)
    ∙ ap (λ t. cond t (refuse (Unsupported l.place Signature)) (data_behind limits.Message MESSAGE_BYTES l) true i) (ap (λ x. starts_with nat_eq x (codes "gpgsig ")) h.1 ∙ no_signature h.0)
    ∙ data_behind_again limits.Message MESSAGE_BYTES l i b j h

message_data-reads : Reads message_data (HasData MESSAGE_BYTES)
unfolding message_data
message_data-reads =
    convert message_data (Then NextLine (DataLine MESSAGE_BYTES)) (HasData MESSAGE_BYTES)
    (then_reads need_line message_behind NextLine (DataLine MESSAGE_BYTES) need_line-reads (λ l. record { was = message_was l; again = message_again l }))
    (data_has MESSAGE_BYTES) (data_then MESSAGE_BYTES)

-- ---- marks and blobs

abbrev ThenMarks : Input → Option ℕ → Input → Type 0
ThenMarks = Then (Said (codes "mark ") mark_in) (λ m. Then (OptionLine (codes "original-oid ")) (λ o. Same m))

marks_was : (i : Input) (m : Option ℕ) (j : Input) → ThenMarks i m j → HasMarks i m j
marks_was i m j h = record {
  middle = h.1;
  mark = subst (λ z. Said (codes "mark ") mark_in i z h.1) h.3.3.0 h.2;
  other = h.3.0;
  name = subst (λ z. OptionLine (codes "original-oid ") h.1 h.3.0 z) h.3.3.1 h.3.2;
}

marks_again : (i : Input) (m : Option ℕ) (j : Input) → HasMarks i m j → ThenMarks i m j
marks_again i m j h = (m, h.middle, h.mark, (h.other, j, h.name, (refl, refl)))

mark_lines-reads : Reads mark_lines HasMarks
unfolding mark_lines
mark_lines-reads =
    convert mark_lines ThenMarks HasMarks
    (then_reads (said (codes "mark ") mark_in) (λ m. option_line (codes "original-oid ") then λ o. pure m) (Said (codes "mark ") mark_in) (λ m. Then (OptionLine (codes "original-oid ")) (λ o. Same m))
    (said-reads (codes "mark ") mark_in)
    (λ m. then_reads (option_line (codes "original-oid ")) (λ o. pure m) (OptionLine (codes "original-oid ")) (λ o. Same m) (option_line-reads (codes "original-oid ")) (λ o. pure_reads m)))
    marks_was marks_again

abbrev pub BlobIs : Input → Command → Input → Type 0
BlobIs i c j = (m : Option ℕ) × (b : Bytes) × HasBlob i m b j × (commands.Blob m b ≡ c)

abbrev ThenBlob : Input → Command → Input → Type 0
ThenBlob = Then HasMarks (λ m. Then (HasData BLOB_BYTES) (λ d. Same (commands.Blob m d)))

blob_was : (i : Input) (c : Command) (j : Input) → ThenBlob i c j → BlobIs i c j
blob_was i c j h = (h.0, h.3.0, record { middle = h.1; marks = h.2; content = subst (λ z. HasData BLOB_BYTES h.1 h.3.0 z) h.3.3.1 h.3.2 }, h.3.3.0)

blob_again : (i : Input) (c : Command) (j : Input) → BlobIs i c j → ThenBlob i c j
blob_again i c j h = (h.0, h.2.middle, h.2.marks, (h.1, j, h.2.content, (h.3, refl)))

pub blob-reads : Reads blob BlobIs
unfolding blob
blob-reads =
    convert blob ThenBlob BlobIs
    (then_reads mark_lines (λ m. blob_data then λ d. pure (commands.Blob m d)) HasMarks (λ m. Then (HasData BLOB_BYTES) (λ d. Same (commands.Blob m d))) mark_lines-reads
    (λ m. then_reads blob_data (λ d. pure (commands.Blob m d)) (HasData BLOB_BYTES) (λ d. Same (commands.Blob m d)) blob_data-reads (λ d. pure_reads (commands.Blob m d))))
    blob_was blob_again

-- ---- people

tested : (b : Bool) (t c : Bytes) (f : StreamFault) → cond b (Ok t) (fault f) ≡ Ok c → (b ≡ true) × (t ≡ c)
tested true t c f e = (refl, ok_is t c e)
tested false t c f e = absurd cc

ident_ok : (at : ℕ) (t c : Bytes) → ident at t ≡ Ok c → (is_ident t ≡ true) × (t ≡ c)
ident_ok at t c e = tested (is_ident t) t c (Syntax at) e

pub refname_ok : (at : ℕ) (t r : Bytes) → refname at t ≡ Ok r → (is_ref_name t ≡ true) × (t ≡ r)
refname_ok at t r e = tested (is_ref_name t) t r (Syntax at) e

committer_was : (l : Line) (c : Bytes) → committer_of l ≡ Ok c → (l.bytes ≡ codes "committer " ++ c) × (is_ident c ≡ true)
committer_was l c e =
    let b = bind_ok (or_fault (Syntax l.place) (strip (codes "committer ") l.bytes)) (ident l.place) c e in
    let t = ident_ok l.place b.0 c b.2 in (
      strip-spelled (codes "committer ") l.bytes b.0 (or_ok (Syntax l.place) (strip (codes "committer ") l.bytes) b.0 b.1) ∙ ap (λ z. codes "committer " ++ z) t.1,
      ap is_ident (sym t.1) ∙ t.0,
    )

committer_again : (l : Line) (c : Bytes) → l.bytes ≡ codes "committer " ++ c → is_ident c ≡ true → committer_of l ≡ Ok c
committer_again l c e h =
    ap (λ o. or_fault (Syntax l.place) o >>= ident l.place) (ap (strip (codes "committer ")) e ∙ strip-read (codes "committer ") c)
    ∙ ap (λ b. cond b (Ok c) (fault (Syntax l.place))) h

abbrev ThenPeople : Input → Bytes × Bytes → Input → Type 0
ThenPeople = Then (Said (codes "author ") author_in) (λ a. Then NextLine (λ l. Then (Told (committer_of l)) (λ c. Same (author_or c a, c))))

people_was : (i : Input) (p : Bytes × Bytes) (j : Input) → ThenPeople i p j → HasPeople i p j
people_was i p j h =
    let l : Line = h.3.0 in
    let c : Bytes = h.3.3.0 in
    let w = committer_was l c h.3.3.2.0 in
    let e : h.3.1 ≡ j = h.3.3.2.1 ∙ h.3.3.3.1 in
    subst (λ z. HasPeople i z j) h.3.3.3.0 (record {
      named = h.0;
      middle = h.1;
      first = h.2;
      place = l.place;
      line = record { line = l; next = subst (NextLine h.1 l) e h.3.2; place = refl; bytes = w.0 };
      ident = w.1;
      author = refl;
    })

people_again : (i : Input) (p : Bytes × Bytes) (j : Input) → HasPeople i p j → ThenPeople i p j
people_again i p j h =
    (h.named, h.middle, h.first, (h.line.line, j, h.line.next, (p.1, j, (committer_again h.line.line p.1 h.line.bytes h.ident, refl), (λ k. (sym h.author k, p.1), refl))))

people-reads : Reads people HasPeople
unfolding people
people-reads =
    convert people ThenPeople HasPeople
    (then_reads (said (codes "author ") author_in) _ (Said (codes "author ") author_in) (λ a. Then NextLine (λ l. Then (Told (committer_of l)) (λ c. Same (author_or c a, c)))) (said-reads (codes "author ") author_in)
    (λ a. then_reads need_line _ NextLine (λ l. Then (Told (committer_of l)) (λ c. Same (author_or c a, c))) need_line-reads
    (λ l. then_reads (judged (committer_of l)) _ (Told (committer_of l)) (λ c. Same (author_or c a, c)) (judged_reads (committer_of l)) (λ c. pure_reads (author_or c a, c)))))
    people_was people_again

-- ---- parents

pub ref_line-reads : (word : Bytes) → Reads (ref_line word) (Said word ref_in)
unfolding ref_line
ref_line-reads word = said-reads word ref_in

abbrev Merged : ℕ → List CommitRef → Input → List CommitRef → Input → Type 0
Merged n done i out j = (rs : List CommitRef) × HasMerges rs i j × (length rs ≤ n) × (done ++ rs ≡ out)

no_more : (n : ℕ) (done : List CommitRef) (i : Input) (k : Input) → Said (codes "merge ") ref_in i None k → (out : List CommitRef) (j : Input) → pure {E = StreamFault} done true k ≡ Ok (out, j) → Merged n done i out j
no_more n done i k h out j e = let p = (pure_reads done).was k out j e in ([], (h.0, h.1 ∙ p.1), omega arith, append-nil done ∙ p.0)

first_was : (done : List CommitRef) (i : Input) (o : Option CommitRef) (k : Input) → Said (codes "merge ") ref_in i o k → (out : List CommitRef) (j : Input) →
    more_merges done (λ r. refuse (Limit r.at limits.Parents)) o true k ≡ Ok (out, j) → Merged zero done i out j
first_was done i None k h out j e = no_more zero done i k h out j e
first_was done i (Some r) k h out j e = absurd cc

more_was : (n : ℕ) (done : List CommitRef) → ((r : CommitRef) → Reads (merges n (done ++ r ∷ [])) (Merged n (done ++ r ∷ []))) → (i : Input) (o : Option CommitRef) (k : Input) →
    Said (codes "merge ") ref_in i o k → (out : List CommitRef) (j : Input) → more_merges done (λ r. merges n (done ++ r ∷ [])) o true k ≡ Ok (out, j) → Merged (suc n) done i out j
more_was n done h i None k s out j e = no_more (suc n) done i k s out j e
more_was n done h i (Some r) k s out j e =
    let w = (h r).was k out j e in (r ∷ w.0, (k, s, w.1), omega (arith, w.2), sym (append_assoc done (r ∷ []) w.0) ∙ w.3)

none_again : (done : List CommitRef) (next : CommitRef → Reader (List CommitRef)) (i : Input) (out : List CommitRef) (j : Input) → NoWord (codes "merge ") i → i ≡ j → done ++ [] ≡ out →
    (ref_line (codes "merge ") then more_merges done next) true i ≡ Ok (out, j)
none_again done next i out j h e p =
    ap (λ r. r >>= λ x. more_merges done next x.0 true x.1) ((ref_line-reads (codes "merge ")).again i None j (h, e)) ∙ (λ k. Ok ((sym (append-nil done) ∙ p) k, j))

zero_again : (done : List CommitRef) (i : Input) (out : List CommitRef) (j : Input) (rs : List CommitRef) → HasMerges rs i j → length rs ≤ zero → done ++ rs ≡ out → merges zero done true i ≡ Ok (out, j)
zero_again done i out j [] h l p = none_again done (λ r. refuse (Limit r.at limits.Parents)) i out j h.0 h.1 p
zero_again done i out j (r ∷ rs) h l p = absurd (omega arith)

suc_again : (n : ℕ) (done : List CommitRef) → ((r : CommitRef) → Reads (merges n (done ++ r ∷ [])) (Merged n (done ++ r ∷ []))) → (i : Input) (out : List CommitRef) (j : Input) (rs : List CommitRef) →
    HasMerges rs i j → length rs ≤ suc n → done ++ rs ≡ out → merges (suc n) done true i ≡ Ok (out, j)
suc_again n done g i out j [] h l p = none_again done (λ r. merges n (done ++ r ∷ [])) i out j h.0 h.1 p
suc_again n done g i out j (r ∷ rs) h l p =
    ap (λ t. t >>= λ x. more_merges done (λ r. merges n (done ++ r ∷ [])) x.0 true x.1) ((ref_line-reads (codes "merge ")).again i (Some r) h.0 h.1)
    ∙ (g r).again h.0 out j (rs, h.2, omega arith, append_assoc done (r ∷ []) rs ∙ p)

pub merges-reads : (n : ℕ) (done : List CommitRef) → Reads (merges n done) (Merged n done)
merges-reads zero done = record {
  was = λ i out j e.
      let b = bind_ok (ref_line (codes "merge ") true i) (λ x. more_merges done (λ r. refuse (Limit r.at limits.Parents)) x.0 true x.1) (out, j) e in
      first_was done i b.0.0 b.0.1 ((ref_line-reads (codes "merge ")).was i b.0.0 b.0.1 b.1) out j b.2;
  again = λ i out j h. zero_again done i out j h.0 h.1 h.2 h.3;
}
merges-reads (suc n) done = record {
  was = λ i out j e.
      let b = bind_ok (ref_line (codes "merge ") true i) (λ x. more_merges done (λ r. merges n (done ++ r ∷ [])) x.0 true x.1) (out, j) e in
      more_was n done (λ r. merges-reads n (done ++ r ∷ [])) i b.0.0 b.0.1 ((ref_line-reads (codes "merge ")).was i b.0.0 b.0.1 b.1) out j b.2;
  again = λ i out j h. suc_again n done (λ r. merges-reads n (done ++ r ∷ [])) i out j h.0 h.1 h.2 h.3;
}

abbrev ParentsAre : Input → Option CommitRef × List CommitRef → Input → Type 0
ParentsAre i y j = HasParents i y.0 y.1 j

abbrev ThenParents : Input → Option CommitRef × List CommitRef → Input → Type 0
ThenParents = Then (Said (codes "from ") ref_in) (λ f. Then (Merged (merges_max f) []) (λ m. Same (f, m)))

parents_was : (i : Input) (y : Option CommitRef × List CommitRef) (j : Input) → ThenParents i y j → ParentsAre i y j
parents_was i y j h =
    let f : Option CommitRef = h.0 in
    let m : List CommitRef = h.3.0 in
    let w = h.3.2 in
    subst (λ z. HasParents i z.0 z.1 j) h.3.3.0 (record {
      middle = h.1;
      first = h.2;
      others = subst (λ (z : List CommitRef). HasMerges z h.1 j) w.3 (subst (λ k. HasMerges w.0 h.1 k) h.3.3.1 w.1);
      few = subst (λ (z : List CommitRef). length z ≤ merges_max f) w.3 w.2;
    })

parents_again : (i : Input) (y : Option CommitRef × List CommitRef) (j : Input) → ParentsAre i y j → ThenParents i y j
parents_again i y j h = (y.0, h.middle, h.first, (y.1, j, (y.1, h.others, h.few, refl), (refl, refl)))

parents-reads : Reads parents ParentsAre
unfolding parents
parents-reads =
    convert parents ThenParents ParentsAre
    (then_reads (ref_line (codes "from ")) _ (Said (codes "from ") ref_in) (λ f. Then (Merged (merges_max f) []) (λ m. Same (f, m))) (ref_line-reads (codes "from "))
    (λ f. then_reads (merges (merges_max f) []) _ (Merged (merges_max f) []) (λ m. Same (f, m)) (merges-reads (merges_max f) []) (λ m. pure_reads (f, m))))
    parents_was parents_again

-- ---- heads and resets

abbrev pub HeadIs : Bytes → Input → Command → Input → Type 0
HeadIs t i c j = (h : CommitHead) × (h.refname ≡ t) × HasHead i h j × (commands.Commit h ≡ c)

abbrev ThenHead : ℕ → Bytes → Input → Command → Input → Type 0
ThenHead at t =
    Then (Told (refname at t)) (λ r. Then HasMarks (λ m. Then HasPeople (λ p. Then (HasData MESSAGE_BYTES) (λ d. Then ParentsAre (λ q. Same (commands.Commit (head_of r m p d q)))))))

head_was : (at : ℕ) (t : Bytes) (i : Input) (c : Command) (j : Input) → ThenHead at t i c j → HeadIs t i c j
head_was at t i c j h =
    let r : Bytes = h.0 in
    let named = refname_ok at t r h.2.0 in
    let ms = h.3 in
    let ps = ms.3 in
    let ds = ps.3 in
    let qs = ds.3 in (
      head_of r ms.0 ps.0 ds.0 qs.0,
      sym named.1,
      record {
        named = ap is_ref_name (sym named.1) ∙ named.0;
        a = ms.1;
        marks = subst (λ k. HasMarks k ms.0 ms.1) (sym h.2.1) ms.2;
        b = ps.1;
        people = ps.2;
        c = ds.1;
        message = ds.2;
        parents = subst (λ k. HasParents ds.1 qs.0.0 qs.0.1 k) qs.3.1 qs.2;
      },
      qs.3.0,
    )

head_again : (at : ℕ) (t : Bytes) (i : Input) (c : Command) (j : Input) → HeadIs t i c j → ThenHead at t i c j
head_again at t i c j h =
    let g : CommitHead = h.0 in
    let w = h.2 in
    let e : refname at t ≡ Ok g.refname = ap (refname at) (sym h.1) ∙ ap (λ b. cond b (Ok g.refname) (fault (Syntax at))) w.named in
    (g.refname, i, (e, refl), (g.mark, w.a, w.marks, ((g.author, g.committer), w.b, w.people, (g.message, w.c, w.message, ((g.from, g.merges), j, w.parents, (h.3, refl))))))

pub head-reads : (at : ℕ) (t : Bytes) → Reads (head at t) (HeadIs t)
unfolding head
head-reads at t =
    convert (head at t) (ThenHead at t) (HeadIs t)
    (then_reads (judged (refname at t)) _ (Told (refname at t)) _ (judged_reads (refname at t))
    (λ r. then_reads mark_lines _ HasMarks _ mark_lines-reads
    (λ m. then_reads people _ HasPeople _ people-reads
    (λ p. then_reads message_data _ (HasData MESSAGE_BYTES) _ message_data-reads
    (λ d. then_reads parents _ ParentsAre (λ q. Same (commands.Commit (head_of r m p d q))) parents-reads (λ q. pure_reads (commands.Commit (head_of r m p d q))))))))
    (head_was at t) (head_again at t)

abbrev pub ResetIs : Bytes → Input → Command → Input → Type 0
ResetIs t i c j = (f : Option CommitRef) × (is_ref_name t ≡ true) × Said (codes "from ") ref_in i f j × (commands.Reset t f ≡ c)

abbrev ThenReset : ℕ → Bytes → Input → Command → Input → Type 0
ThenReset at t = Then (Told (refname at t)) (λ r. Then (Said (codes "from ") ref_in) (λ f. Same (commands.Reset r f)))

reset_was : (at : ℕ) (t : Bytes) (i : Input) (c : Command) (j : Input) → ThenReset at t i c j → ResetIs t i c j
reset_was at t i c j h =
    let named = refname_ok at t h.0 h.2.0 in (
      h.3.0,
      named.0,
      subst (λ k. Said (codes "from ") ref_in k h.3.0 j) (sym h.2.1) (subst (λ k. Said (codes "from ") ref_in h.1 h.3.0 k) h.3.3.1 h.3.2),
      ap (λ r. commands.Reset r h.3.0) named.1 ∙ h.3.3.0,
    )

reset_again : (at : ℕ) (t : Bytes) (i : Input) (c : Command) (j : Input) → ResetIs t i c j → ThenReset at t i c j
reset_again at t i c j h = (t, i, (ap (λ b. cond b (Ok t) (fault (Syntax at))) h.1, refl), (h.0, j, h.2, (h.3, refl)))

pub reset-reads : (at : ℕ) (t : Bytes) → Reads (reset at t) (ResetIs t)
unfolding reset
reset-reads at t =
    convert (reset at t) (ThenReset at t) (ResetIs t)
    (then_reads (judged (refname at t)) _ (Told (refname at t)) (λ r. Then (Said (codes "from ") ref_in) (λ f. Same (commands.Reset r f))) (judged_reads (refname at t))
    (λ r. then_reads (ref_line (codes "from ")) _ (Said (codes "from ") ref_in) (λ f. Same (commands.Reset r f)) (ref_line-reads (codes "from ")) (λ f. pure_reads (commands.Reset r f))))
    (reset_was at t) (reset_again at t)

-- ---- tags

-- a line that must be there, and what it says
must_was : {A : Type 0} (word : Bytes) (says : Line → Judged A) (i : Input) (x : A) (j : Input) → Then NextLine (λ l. Told (behind_word word l >>= says)) i x j → Said word says i (Some x) j
must_was word says i x j h =
    let l : Line = h.0 in
    let b = bind_ok (behind_word word l) says x h.3.0 in
    let c = bind_ok (or_fault (Syntax l.place) (strip word l.bytes)) (λ t. Ok (record { place = l.place; bytes = t })) b.0 b.1 in
    let t : Bytes = c.0 in
    let e : record { place = l.place; bytes = t } ≡ b.0 = ok_is _ b.0 c.2 in (
      record { place = l.place; bytes = t },
      record { line = l; next = subst (NextLine i l) h.3.1 h.2; place = refl; bytes = strip-spelled word l.bytes t (or_ok (Syntax l.place) (strip word l.bytes) t c.1) },
      ap says e ∙ b.2,
    )

must_again : {A : Type 0} (word : Bytes) (says : Line → Judged A) (i : Input) (x : A) (j : Input) → Said word says i (Some x) j → Then NextLine (λ l. Told (behind_word word l >>= says)) i x j
must_again word says i x j h =
    let l : Line = h.1.line in
    (l, j, h.1.next, (ap (λ o. (or_fault (Syntax l.place) o >>= λ t. Ok (record { place = l.place; bytes = t })) >>= says) (ap (strip word) h.1.bytes ∙ strip-read word h.0.bytes) ∙ ap says (λ k. record { place = h.1.place k; bytes = h.0.bytes }) ∙ h.2, refl))

must_say-reads : {A : Type 0} (word : Bytes) (says : Line → Judged A) → Reads (must_say word says) (λ i x j. Said word says i (Some x) j)
must_say-reads word says =
    convert (must_say word says) (Then NextLine (λ l. Told (behind_word word l >>= says))) (λ i x j. Said word says i (Some x) j)
    (then_reads need_line (λ l. judged (behind_word word l >>= says)) NextLine (λ l. Told (behind_word word l >>= says)) need_line-reads (λ l. judged_reads (behind_word word l >>= says)))
    (must_was word says) (must_again word says)

tag_data-reads : Reads tag_data (HasData MESSAGE_BYTES)
unfolding tag_data
tag_data-reads =
    convert tag_data (Then NextLine (DataLine MESSAGE_BYTES)) (HasData MESSAGE_BYTES)
    (then_reads need_line (data_behind limits.Message MESSAGE_BYTES) NextLine (DataLine MESSAGE_BYTES) need_line-reads (data_behind-reads limits.Message MESSAGE_BYTES))
    (data_has MESSAGE_BYTES) (data_then MESSAGE_BYTES)

tag_name_ok : (at : ℕ) (o : Option Bytes) (n : Bytes) → tag_name at o ≡ Ok n → (o ≡ Some n) × (is_tag_name n ≡ true)
tag_name_ok at None n e = absurd cc
tag_name_ok at (Some t) n e = let w = tested (is_tag_name t) t n (Syntax at) e in (ap Some w.1, ap is_tag_name (sym w.1) ∙ w.0)

abbrev tag_of : Bytes → Option ℕ → CommitRef → Bytes → Bytes → TagHead
tag_of n m f p d = record { name = n; from = f; mark = m; tagger = p; message = d }

abbrev pub TagIs : Option Bytes → Input → Command → Input → Type 0
TagIs t i c j = (h : TagHead) × (t ≡ Some h.name) × HasTag i h j × (commands.Tag h ≡ c)

abbrev TaggerIs : Input → Bytes → Input → Type 0
TaggerIs i p j = Said (codes "tagger ") tagger_in i (Some p) j

abbrev FromIs : Input → CommitRef → Input → Type 0
FromIs i f j = Said (codes "from ") ref_in i (Some f) j

abbrev ThenTag : ℕ → Option Bytes → Input → Command → Input → Type 0
ThenTag at t =
    Then (Told (tag_name at t)) (λ n. Then (Said (codes "mark ") mark_in) (λ m. Then FromIs (λ f. Then (OptionLine (codes "original-oid ")) (λ o. Then TaggerIs (λ p. Then (HasData MESSAGE_BYTES) (λ d. Same (commands.Tag (tag_of n m f p d))))))))

tag_was : (at : ℕ) (t : Option Bytes) (i : Input) (c : Command) (j : Input) → ThenTag at t i c j → TagIs t i c j
tag_was at t i c j h =
    let n : Bytes = h.0 in
    let named = tag_name_ok at t n h.2.0 in
    let ms = h.3 in
    let fs = ms.3 in
    let os = fs.3 in
    let ps = os.3 in
    let ds = ps.3 in
    let l : Line = ps.2.0 in
    let q = ident_ok l.place l.bytes ps.0 ps.2.2 in (
      tag_of n ms.0 fs.0 ps.0 ds.0,
      named.0,
      record {
        named = named.1;
        a = ms.1;
        mark = subst (λ k. Said (codes "mark ") mark_in k ms.0 ms.1) (sym h.2.1) ms.2;
        b = fs.1;
        from = fs.2;
        c = os.1;
        other = os.0;
        name = os.2;
        d = ps.1;
        place = l.place;
        tagger = subst (λ z. WordLine (codes "tagger ") os.1 (record { place = l.place; bytes = z }) ps.1) q.1 ps.2.1;
        ident = ap is_ident (sym q.1) ∙ q.0;
        message = subst (λ k. HasData MESSAGE_BYTES ps.1 ds.0 k) ds.3.1 ds.2;
      },
      ds.3.0,
    )

tag_again : (at : ℕ) (t : Option Bytes) (i : Input) (c : Command) (j : Input) → TagIs t i c j → ThenTag at t i c j
tag_again at t i c j h =
    let g : TagHead = h.0 in
    let w = h.2 in
    let e : tag_name at t ≡ Ok g.name = ap (tag_name at) h.1 ∙ ap (λ b. cond b (Ok g.name) (fault (Syntax at))) w.named in
    let p : tagger_in (record { place = w.place; bytes = g.tagger }) ≡ Ok g.tagger = ap (λ b. cond b (Ok g.tagger) (fault (Syntax w.place))) w.ident in
    (g.name, i, (e, refl), (g.mark, w.a, w.mark, (g.from, w.b, w.from, (w.other, w.c, w.name, (g.tagger, w.d, (record { place = w.place; bytes = g.tagger }, w.tagger, p), (g.message, j, w.message, (h.3, refl)))))))

pub tag-reads : (at : ℕ) (t : Option Bytes) → Reads (tag at t) (TagIs t)
unfolding tag
tag-reads at t =
    convert (tag at t) (ThenTag at t) (TagIs t)
    (then_reads (judged (tag_name at t)) _ (Told (tag_name at t)) _ (judged_reads (tag_name at t))
    (λ n. then_reads (said (codes "mark ") mark_in) _ (Said (codes "mark ") mark_in) _ (said-reads (codes "mark ") mark_in)
    (λ m. then_reads (must_say (codes "from ") ref_in) _ FromIs _ (must_say-reads (codes "from ") ref_in)
    (λ f. then_reads (option_line (codes "original-oid ")) _ (OptionLine (codes "original-oid ")) _ (option_line-reads (codes "original-oid "))
    (λ o. then_reads (must_say (codes "tagger ") tagger_in) _ TaggerIs _ (must_say-reads (codes "tagger ") tagger_in)
    (λ p. then_reads tag_data _ (HasData MESSAGE_BYTES) (λ d. Same (commands.Tag (tag_of n m f p d))) tag_data-reads (λ d. pure_reads (commands.Tag (tag_of n m f p d)))))))))
    (tag_was at t) (tag_again at t)
