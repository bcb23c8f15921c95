-- Each reader of the grammar waits near what it tells then.
use Rattle.std.proofs.Common.{◌≡◌, inl, inr, ◌+◌, ◌≤◌, ℕ, zero, suc, Bool, true, false, cond, List, [], ◌∷◌, ◌++◌, length, Option, Some, None, Ok, Err, refl, ap, arith, subst, nat_eq, leb-true}
use Rattle.std.specs.Prelude.{codes, nat_le}
use Rattle.std.specs.List.{starts_with}
use Rattle.git_objects.specs.Paths.{Bytes}
use Rattle.git_objects.specs.Results.{◌>>=◌}
use Rattle.git_objects.specs.declared.limits.TheConstants.{BLOB_BYTES, LINE_BYTES, MESSAGE_BYTES, STREAM_BYTES}
use Rattle.git_objects.specs.declared.quantity.Quantity.{Quantity}
use Rattle.git_objects.specs.declared.quantity.Quantity.TheVariants as limits
use Rattle.stream_lex.specs.Cutting.{◌then◌, grown, judged, place, pure, refuse}
use Rattle.stream_lex.specs.Lines.{Input, Lex, Line, block_at}
use Rattle.stream_lex.specs.Spelling.{PastLf}
use Rattle.stream_lex.specs.declared.stop.LimitFault.TheVariants.{LongLine, StreamTooLong}
use Rattle.stream_lex.specs.declared.stop.Stop.TheVariants.{More, Fault}
use Rattle.stream_lex.specs.declared.stop.Wanted.{Wanted}
use Rattle.stream_lex.proofs.BlockSpelled.{BlockTold, block_at-told}
use Rattle.stream_lex.proofs.Combining.{judged-reader}
use Rattle.stream_reader.specs.Blocks.{blob_data, block_in, count, data_behind, message_behind, message_data, sized_block, tag_data, whole_block}
use Rattle.stream_reader.specs.Changes.{ChangeLine, ModifyIs, DeleteIs, RenameIs, CopyIs, DeleteAllIs, NotesAre, EmptyIs, NoChange, blob_ref, change, modify, modify_line}
use Rattle.stream_reader.specs.Heads.{author_in, author_or, behind_word, blob, committer_of, head, if_some, mark_in, mark_lines, merges, merges_max, more_merges, parents, people, must_say, ref_in, ref_line, reset, said, tag, tagger_in}
use Rattle.stream_reader.specs.Names.{refname, tag_name}
use Rattle.stream_reader.specs.PathWords.{last_path, two_paths}
use Rattle.stream_reader.specs.Reading.{Judged, Read, Reader, lifted, option_line, or_fault}
use Rattle.stream_reader.specs.declared.command.Command.TheVariants as commands
use Rattle.stream_reader.specs.declared.commit_ref.CommitRef.{CommitRef}
use Rattle.stream_reader.specs.declared.commit_ref.Target.{Target}
use Rattle.stream_reader.specs.declared.fault.StreamFault.TheVariants.{Limit, Syntax}
use Rattle.stream_reader.specs.declared.modify.DataRef.{DataRef}
use Rattle.stream_reader.specs.declared.modify.DataRef.TheVariants as datas
use Rattle.stream_reader.proofs.Composed.{blob_data-reader, blob_ref-reader, mark_lines-reader, merges-reader, message_data-reader, parents-reader, people-reader, must_say-reader, ref_line-reader, said-reader, tag_data-reader}
use Rattle.stream_reader.proofs.Judging.{IsJudged, author_in-judged, behind-judged, committer_of-judged, if_some-judged, last_path-judged, mark_in-judged, modify_line-judged, ref_in-judged, refname-judged, tag_name-judged, tagger_in-judged, target-judged, two_paths-judged}
use Rattle.stream_reader.proofs.Placing.{ahead}
use Rattle.stream_reader.proofs.Prompting.{From, IsBeside, IsPrompt, Later, cond-beside, judged-prompt, need-prompt, option-prompt, prompt-beside, prompt_as, pure-prompt, refuse-prompt, then-prompt}

-- ---- blocks

past_behind : (at : ℕ) (rest : Bytes) (j : Input) → PastLf at rest j → at ≤ j.at
past_behind at [] j p = omega (arith, ap (λ (k : Input). k.at) p)
past_behind at (y ∷ ys) j (inl p) = omega (arith, ap (λ (k : Input). k.at) p.1)
past_behind at (y ∷ ys) j (inr p) = omega (arith, ap (λ (k : Input). k.at) p.1)

block_from : (at n b : ℕ) (i : Input) → b ≤ at + (LINE_BYTES + 1) → b ≤ i.at → i.at ≤ STREAM_BYTES → (r : Lex (Option Bytes)) → BlockTold n true i r → From b (Later b) (lifted r >>= block_in at)
block_from at n b i l m s (Ok (Some x, j)) h = omega (arith, m, past_behind (i.at + length x) h.0.rest j h.0.past, ahead j h.0.within)
block_from at n b i l m s (Ok (None, j)) h = l
block_from at n b i l m s (Err (More w)) h = tt
block_from at n b i l m s (Err (Fault (LongLine t))) h = absurd h
block_from at n b i l m s (Err (Fault StreamTooLong)) h = omega (arith, m, s)

block_waits : (at : ℕ) (r : Lex (Option Bytes)) (w : Wanted) → (lifted r >>= block_in at) ≡ Err (More w) → r ≡ Err (More w)
block_waits at (Ok (Some x, j)) w e = let no : ⊥ = cc in absurd no
block_waits at (Ok (None, j)) w e = let no : ⊥ = cc in absurd no
block_waits at (Err (More v)) w e = let same : v ≡ w = cc in ap (λ u. Err (More u)) same
block_waits at (Err (Fault (LongLine t))) w e = let no : ⊥ = cc in absurd no
block_waits at (Err (Fault StreamTooLong)) w e = let no : ⊥ = cc in absurd no

whole_block-beside : (at n : ℕ) → n ≤ BLOB_BYTES → IsBeside at (whole_block at n)
whole_block-beside at n few = record {
  later = λ b i l m s. block_from at n b i (omega (arith, l)) (omega (arith, l, m)) s (block_at n true i) (block_at-told n true i);
  near = λ i w m s e.
      let told = subst (BlockTold n false i) (block_waits at (block_at n false i) w e) (block_at-told n false i) in
      let here : place w ≡ i.at = ap place told.3 in record {
        few = omega (arith, here, told.2, few);
        after = λ more. block_from at n (place w) (grown more i) (omega (arith, here, m)) (omega (arith, here)) s (block_at n true (grown more i)) (block_at-told n true (grown more i));
      };
}

sized_block-beside : (which : Quantity) (most at n : ℕ) → most ≤ BLOB_BYTES → IsBeside at (sized_block which most at n)
sized_block-beside which most at n few =
    elim (nat_le n most) as (λ b. nat_le n most ≡ b → IsBeside at (cond b (whole_block at n) (refuse (Limit at which)))) [
      | true ↦ λ e. whole_block-beside at n (omega (arith, few, leb-true n most e))
      | false ↦ λ e. prompt-beside at _ (refuse-prompt (Limit at which))
    ] refl

counted-beside : (which : Quantity) (most at : ℕ) → most ≤ BLOB_BYTES → (o : Option ℕ) → IsBeside at (judged (or_fault (Syntax at) o) then sized_block which most at)
counted-beside which most at few None = prompt-beside at _ (refuse-prompt (Syntax at))
counted-beside which most at few (Some n) = sized_block-beside which most at n few

data_behind-beside : (which : Quantity) (most : ℕ) → most ≤ BLOB_BYTES → (l : Line) → IsBeside l.place (data_behind which most l)
unfolding data_behind
data_behind-beside which most few l =
    cond-beside l.place (starts_with nat_eq l.bytes (codes "data <<")) _ _ (prompt-beside l.place _ (refuse-prompt _)) (counted-beside which most l.place few (count l.bytes))

blob_data-prompt : (at : ℕ) → IsPrompt at blob_data
unfolding blob_data
blob_data-prompt at = need-prompt (data_behind limits.Blob BLOB_BYTES) (data_behind-beside limits.Blob BLOB_BYTES (omega arith)) at

message_behind-beside : (l : Line) → IsBeside l.place (message_behind l)
message_behind-beside l =
    cond-beside l.place (starts_with nat_eq l.bytes (codes "encoding ")) _ _ (prompt-beside l.place _ (refuse-prompt _))
    (cond-beside l.place (starts_with nat_eq l.bytes (codes "gpgsig ")) _ _ (prompt-beside l.place _ (refuse-prompt _)) (data_behind-beside limits.Message MESSAGE_BYTES (omega arith) l))

message_data-prompt : (at : ℕ) → IsPrompt at message_data
unfolding message_data
message_data-prompt at = need-prompt message_behind message_behind-beside at

-- ---- changes

blob_ref-prompt : (at : ℕ) (d : DataRef) → IsPrompt at (blob_ref d)
blob_ref-prompt at (datas.Mark n) = pure-prompt at _
blob_ref-prompt at (datas.Digits n) = pure-prompt at _
blob_ref-prompt at datas.Inline = then-prompt at blob_data _ blob_data-reader (blob_data-prompt at) (λ c b. pure-prompt c _)

modify-prompt : (at : ℕ) (t : Bytes) → IsPrompt at (modify at t)
unfolding modify
modify-prompt at t =
    then-prompt at (judged (modify_line at t)) _ (judged-reader (modify_line at t) (modify_line-judged at t).told) (judged-prompt at (modify_line at t) (modify_line-judged at t)) (λ c l.
    then-prompt c (blob_ref l.blob) _ (blob_ref-reader l.blob) (blob_ref-prompt c l.blob) (λ c b. pure-prompt c _))

said_of : {A B : Type 0} (at : ℕ) (r : Judged A) (make : A → B) → IsJudged at r → IsPrompt at (judged r then λ x. pure (make x))
said_of at r make h = then-prompt at (judged r) (λ x. pure (make x)) (judged-reader r h.told) (judged-prompt at r h) (λ c x. pure-prompt c (make x))

pub change-prompt : (at : ℕ) (k : ChangeLine) → IsPrompt at (change at k)
unfolding change
change-prompt at (ModifyIs t) = modify-prompt at t
change-prompt at (DeleteIs t) = said_of at (last_path at t) _ (last_path-judged at t)
change-prompt at (RenameIs t) = said_of at (two_paths at t) _ (two_paths-judged at t)
change-prompt at (CopyIs t) = said_of at (two_paths at t) _ (two_paths-judged at t)
change-prompt at DeleteAllIs = pure-prompt at _
change-prompt at NotesAre = refuse-prompt _
change-prompt at EmptyIs = refuse-prompt _
change-prompt at NoChange = refuse-prompt _

-- ---- heads

said-prompt : {A : Type 0} (word : Bytes) (says : Line → Judged A) → ((l : Line) → IsJudged l.place (says l)) → (at : ℕ) → IsPrompt at (said word says)
said-prompt word says h = option-prompt word (λ o. judged (if_some says o)) (λ l. judged-prompt l.place (if_some says (Some l)) (if_some-judged says h (Some l))) (λ at. pure-prompt at None)

mark_lines-prompt : (at : ℕ) → IsPrompt at mark_lines
unfolding mark_lines
mark_lines-prompt at =
    then-prompt at (said (codes "mark ") mark_in) _ (said-reader (codes "mark ") mark_in mark_in-judged) (said-prompt (codes "mark ") mark_in mark_in-judged at)
    (λ c m. option-prompt (codes "original-oid ") (λ o. pure m) (λ l. pure-prompt l.place m) (λ at. pure-prompt at m) c)

pub blob-prompt : (at : ℕ) → IsPrompt at blob
unfolding blob
blob-prompt at = then-prompt at mark_lines _ mark_lines-reader (mark_lines-prompt at) (λ c m. then-prompt c blob_data _ blob_data-reader (blob_data-prompt c) (λ c d. pure-prompt c _))

people-prompt : (at : ℕ) → IsPrompt at people
unfolding people
people-prompt at =
    then-prompt at (said (codes "author ") author_in) _ (said-reader (codes "author ") author_in author_in-judged) (said-prompt (codes "author ") author_in author_in-judged at)
    (λ c a. need-prompt (λ l. judged (committer_of l) then λ c. pure (author_or c a, c)) (λ l. prompt-beside l.place _ (said_of l.place (committer_of l) _ (committer_of-judged l))) c)

ref_line-prompt : (word : Bytes) (at : ℕ) → IsPrompt at (ref_line word)
unfolding ref_line
ref_line-prompt word at = said-prompt word ref_in ref_in-judged at

-- one merge more than there may be is refused at its line
module _ (done : List CommitRef) where
  abbrev too_many : Option CommitRef → Reader (List CommitRef)
  too_many = more_merges done (λ r. refuse (Limit r.at limits.Parents))

  named_too_many : (l : Line) (q : Judged Target) → IsJudged l.place q → IsPrompt l.place (judged ((q >>= λ t. Ok (record { at = l.place; target = t })) >>= λ x. Ok (Some x)) then too_many)
  named_too_many l (Ok t) h = refuse-prompt (Limit l.place limits.Parents)
  named_too_many l (Err (More w)) h = absurd h.told
  named_too_many l (Err (Fault f)) h = subst (λ n. IsPrompt {A = List CommitRef} n (refuse f)) h.there (refuse-prompt f)

  too_many_same : (ended : Bool) (i : Input) → (option_line (codes "merge ") then λ o. judged (if_some ref_in o) then too_many) ended i ≡ (said (codes "merge ") ref_in then too_many) ended i
  too_many_same ended i = go (option_line (codes "merge ") ended i)
    where
      go : (r : Read (Option Line)) → (r >>= λ y. (judged (if_some ref_in y.0) then too_many) ended y.1) ≡ ((r >>= λ y. judged (if_some ref_in y.0) ended y.1) >>= λ y. too_many y.0 ended y.1)
      go (Ok x) = refl
      go (Err e) = refl

  too_many-prompt : (at : ℕ) → IsPrompt at (ref_line (codes "merge ") then too_many)
  unfolding ref_line
  too_many-prompt at =
      prompt_as at (option_line (codes "merge ") then λ o. judged (if_some ref_in o) then too_many) (said (codes "merge ") ref_in then too_many) too_many_same
      (option-prompt (codes "merge ") (λ o. judged (if_some ref_in o) then too_many)
      (λ l. named_too_many l (Rattle.stream_reader.specs.Names.target l.place l.bytes) (target-judged l.place l.bytes)) (λ c. pure-prompt c done) at)

more_merges-prompt : (at : ℕ) (done : List CommitRef) (next : CommitRef → Reader (List CommitRef)) → ((r : CommitRef) → IsPrompt at (next r)) → (o : Option CommitRef) → IsPrompt at (more_merges done next o)
more_merges-prompt at done next h None = pure-prompt at done
more_merges-prompt at done next h (Some r) = h r

merges-prompt : (n : ℕ) (done : List CommitRef) (at : ℕ) → IsPrompt at (merges n done)
merges-prompt zero done at = too_many-prompt done at
merges-prompt (suc n) done at =
    then-prompt at (ref_line (codes "merge ")) _ (ref_line-reader (codes "merge ")) (ref_line-prompt (codes "merge ") at) (λ c o. more_merges-prompt c done _ (λ r. merges-prompt n (done ++ r ∷ []) c) o)

parents-prompt : (at : ℕ) → IsPrompt at parents
unfolding parents
parents-prompt at =
    then-prompt at (ref_line (codes "from ")) _ (ref_line-reader (codes "from ")) (ref_line-prompt (codes "from ") at) (λ c f.
    then-prompt c (merges (merges_max f) []) _ (merges-reader (merges_max f) []) (merges-prompt (merges_max f) [] c) (λ c m. pure-prompt c _))

pub head-prompt : (at : ℕ) (t : Bytes) → IsPrompt at (head at t)
unfolding head
head-prompt at t =
    then-prompt at (judged (refname at t)) _ (judged-reader (refname at t) (refname-judged at t).told) (judged-prompt at (refname at t) (refname-judged at t)) (λ c r.
    then-prompt c mark_lines _ mark_lines-reader (mark_lines-prompt c) (λ c m.
    then-prompt c people _ people-reader (people-prompt c) (λ c p.
    then-prompt c message_data _ message_data-reader (message_data-prompt c) (λ c d.
    then-prompt c parents _ parents-reader (parents-prompt c) (λ c q. pure-prompt c _)))))

pub reset-prompt : (at : ℕ) (t : Bytes) → IsPrompt at (reset at t)
unfolding reset
reset-prompt at t =
    then-prompt at (judged (refname at t)) _ (judged-reader (refname at t) (refname-judged at t).told) (judged-prompt at (refname at t) (refname-judged at t)) (λ c r.
    then-prompt c (ref_line (codes "from ")) _ (ref_line-reader (codes "from ")) (ref_line-prompt (codes "from ") c) (λ c f. pure-prompt c _))

must_say-prompt : {A : Type 0} (word : Bytes) (says : Line → Judged A) → ((at : ℕ) (t : Bytes) → IsJudged at (says (record { place = at; bytes = t }))) → (at : ℕ) → IsPrompt at (must_say word says)
must_say-prompt word says h = need-prompt (λ l. judged (behind_word word l >>= says)) (λ l. prompt-beside l.place _ (judged-prompt l.place (behind_word word l >>= says) (behind-judged word says h l)))

tag_data-prompt : (at : ℕ) → IsPrompt at tag_data
unfolding tag_data
tag_data-prompt at = need-prompt (data_behind limits.Message MESSAGE_BYTES) (data_behind-beside limits.Message MESSAGE_BYTES (omega arith)) at

pub tag-prompt : (at : ℕ) (t : Option Bytes) → IsPrompt at (tag at t)
unfolding tag
tag-prompt at t =
    then-prompt at (judged (tag_name at t)) _ (judged-reader (tag_name at t) (tag_name-judged at t).told) (judged-prompt at (tag_name at t) (tag_name-judged at t)) (λ c n.
    then-prompt c (said (codes "mark ") mark_in) _ (said-reader (codes "mark ") mark_in mark_in-judged) (said-prompt (codes "mark ") mark_in mark_in-judged c) (λ c m.
    then-prompt c (must_say (codes "from ") ref_in) _ (must_say-reader (codes "from ") ref_in (λ at t. ref_in-judged (record { place = at; bytes = t }))) (must_say-prompt (codes "from ") ref_in (λ at t. ref_in-judged (record { place = at; bytes = t })) c) (λ c f.
    option-prompt (codes "original-oid ") (λ o. must_say (codes "tagger ") tagger_in then λ p. tag_data then λ d. pure (commands.Tag (record { name = n; from = f; mark = m; tagger = p; message = d })))
    (λ l. behind l.place n f m) (λ at. behind at n f m) c)))
  where
    behind : (c : ℕ) (n : Bytes) (f : CommitRef) (m : Option ℕ) → IsPrompt c (must_say (codes "tagger ") tagger_in then λ p. tag_data then λ d. pure (commands.Tag (record { name = n; from = f; mark = m; tagger = p; message = d })))
    behind c n f m =
        then-prompt c (must_say (codes "tagger ") tagger_in) _ (must_say-reader (codes "tagger ") tagger_in (λ at t. tagger_in-judged (record { place = at; bytes = t }))) (must_say-prompt (codes "tagger ") tagger_in (λ at t. tagger_in-judged (record { place = at; bytes = t })) c) (λ c p.
        then-prompt c tag_data _ tag_data-reader (tag_data-prompt c) (λ c d. pure-prompt c _))
