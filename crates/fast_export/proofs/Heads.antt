-- What is read of blobs, of the heads of commits and of resets.
use Rattle.std.proofs.Common.{◌≡◌, ℕ, zero, suc, ◌-◌, ◌^◌, ◌<◌, ◌≤◌, Bool, true, cond, not, ◌&&◌, List, [], ◌∷◌, ◌++◌, length, map, Option, Some, None, Ok, Err, refl, sym, ap, ◌∙◌, subst, arith, append_assoc, append-nil}
use Rattle.std.specs.Prelude.{codes, nat_eq, nat_le}
use Rattle.std.specs.Fmt.{decimal}
use Rattle.std.specs.Cmp.{first_so, second_so}
use Rattle.std.proofs.lemmas.Bool.Decides.{nat_tests}
use Rattle.git_objects.specs.declared.quantity.Quantity.TheVariants as limits
use Rattle.git_objects.specs.Paths.{Bytes}
use Rattle.git_objects.specs.Idents.{is_ident, is_digit, is_number, is_sign, is_quiet}
use Rattle.git_objects.specs.Commits.{Letter}
use Rattle.git_objects.specs.CommitBodies.{strip}
use Rattle.git_objects.specs.Lists.{Each}
use Rattle.git_objects.proofs.Basics.{and_both}
use Rattle.git_objects.proofs.IdentSpelling.{ident_law}
use Rattle.path_names.specs.RefNames.{is_ref_name, is_ref_byte}
use Rattle.stream_lex.specs.Lines.{Input, Line, line_at}
use Rattle.stream_lex.specs.Spelling.{no_lf}
use Rattle.stream_reader.specs.declared.fault.StreamFault.TheVariants.{Syntax, Limit}
use Rattle.stream_lex.specs.declared.stop.Stop.TheVariants as stops
use Rattle.stream_reader.specs.declared.command.Command.{Command}
use Rattle.stream_reader.specs.declared.command.Command.TheVariants as commands
use Rattle.stream_reader.specs.declared.command.CommitHead.{CommitHead}
use Rattle.stream_reader.specs.declared.commit_ref.CommitRef.{CommitRef}
use Rattle.stream_reader.specs.declared.commit_ref.Target.{Target}
use Rattle.stream_reader.specs.declared.commit_ref.Target.TheVariants as targets
use Rattle.stream_reader.specs.declared.progress.Manner.{Manner}
use Rattle.stream_reader.specs.declared.progress.Phase.{Phase}
use Rattle.stream_reader.specs.declared.progress.Phase.TheVariants.{Between, InCommit}
use Rattle.stream_reader.specs.declared.progress.Progress.{Progress}
use Rattle.stream_reader.specs.declared.progress.Event.TheVariants.{Gives}
use Rattle.stream_reader.specs.Names.{refname, ident, target}
use Rattle.git_objects.specs.Results.{◌>>=◌}
use Rattle.stream_lex.specs.Cutting.{◌then◌, pure, judged, refuse}
use Rattle.stream_reader.specs.Reading.{Judged, Reader, lifted, option_line, need_line, or_fault}
use Rattle.stream_reader.specs.Blocks.{blob_data, message_data}
use Rattle.stream_reader.specs.Heads.{said, mark_in, mark_lines, blob, author_or, author_in, committer_by, committer_of, people, ref_in, ref_line, more_merges, merges, merges_max, parents, head_of, head, reset}
use Rattle.stream_reader.specs.Commands.{CommandLine, BlobLine, CommitLine, ResetLine, command_line, Turn, turned, gives, between, between_at, turn_in, turn}
use Rattle.stream_reader.specs.Verdicts.{start}
use Rattle.fast_export.proofs.Goings.{Reads, Read, Limited, Says, Said, then_reads, judged_reads, is_command}
use Rattle.fast_export.proofs.Numbers.{digit_plain, mark_again, digits_plain, all_front, all_so}
use Rattle.fast_export.proofs.ReadLines.{left, Room, room_behind, IsLine, LineTold, LineIs, LineLong, line_told, other_reads, need_reads, said_reads, missing_reads, data_text, data_line, blob_data_reads, message_data_reads, data_short}

-- how a reader reads that refuses tags
abbrev pub calm : Manner
calm = start.manner

abbrev pub inside : Progress
inside = record { phase = InCommit; manner = calm }

pub pure_reads : {A : Type 0} (x : A) (i : Input) (P : A → Type 0) → P x → Reads (pure x true i) P i
pure_reads x i P h = Read x refl h

pub reads_so : {A : Type 0} (r : Judged (A × Input)) (P Q : A → Type 0) (j : Input) → ((x : A) → P x → Q x) → Reads r P j → Reads r Q j
reads_so r P Q j h (Read x e p) = Read x e (h x p)
reads_so r P Q j h (Limited at which e) = Limited at which e

-- ---- a turn

pub between_turn : (n : ℕ) (l rest : Bytes) (kind : CommandLine) (P : Turn → Type 0) (j : Input) → Room n (l ++ 10 ∷ rest) → IsLine l → command_line l ≡ kind →
    ((at : ℕ) → Reads (between kind at calm true (left n rest)) P j) → Reads (turn start true (left n (l ++ 10 ∷ rest))) P j
unfolding turn
between_turn n l rest kind P j r k e h = by (line_told n l rest r k)
  where
    told : line_at true (left n (l ++ 10 ∷ rest)) ≡ Ok (Some (record { place = n - length (l ++ 10 ∷ rest); bytes = l }), left n rest) →
        turn_in Between calm true (left n (l ++ 10 ∷ rest)) ≡ between kind (n - length (l ++ 10 ∷ rest)) calm true (left n rest)
    told d = ap (λ r. lifted r >>= between_at calm true) d ∙ ap (λ c. between c (n - length (l ++ 10 ∷ rest)) calm true (left n rest)) e

    by : LineTold n l rest → Reads (turn_in Between calm true (left n (l ++ 10 ∷ rest))) P j
    by (LineIs d) = subst (λ r. Reads r P j) (sym (told d)) (h (n - length (l ++ 10 ∷ rest)))
    by (LineLong at d) = Limited at limits.Line (ap (λ r. lifted r >>= between_at calm true) d)

pub given_reads : (f : Reader Command) (i j : Input) (at : ℕ) (p : Phase) (C : Command → Type 0) → Reads (f true i) C j →
    Reads ((f then gives at p calm) true i) (is_command C (record { phase = p; manner = calm })) j
given_reads f i j at p C h =
    then_reads f (gives at p calm) i j j C (is_command C (record { phase = p; manner = calm })) h
    (λ c k. pure_reads (turned (Gives (record { at = at; command = c })) p calm) j (is_command C (record { phase = p; manner = calm })) (record { at = at; command = c }, refl, k))

-- ---- marks

abbrev pub colon : ℕ → Bytes
colon m = codes ":" ++ decimal m

abbrev pub word_text : Bytes → Bytes → Bytes → Bytes
word_text word v rest = (word ++ v) ++ 10 ∷ rest

pub record IsMark (m : ℕ) : Type 0 where
  pub some : 1 ≤ m
  pub small : m < 2 ^ 30

mark_line : (m : ℕ) → IsMark m → IsLine (codes "mark " ++ colon m)
mark_line m h = record { plain = digits_plain m h.small; seen = refl }

mark_says : (m at : ℕ) → IsMark m → Says (mark_in (record { place = at; bytes = colon m })) (λ x. x ≡ m)
mark_says m at h = Said m (ap (or_fault (Syntax at)) (mark_again m h.some h.small)) refl

pub marks_read : (m n : ℕ) (l rest : Bytes) → Room n (word_text (codes "mark ") (colon m) (l ++ 10 ∷ rest)) → IsMark m → IsLine l → strip (codes "original-oid ") l ≡ None →
    Reads (mark_lines true (left n (word_text (codes "mark ") (colon m) (l ++ 10 ∷ rest)))) (λ o. o ≡ Some m) (left n (l ++ 10 ∷ rest))
unfolding mark_lines
marks_read m n l rest r h k s =
    let i = left n (word_text (codes "mark ") (colon m) (l ++ 10 ∷ rest)) in
    let j = left n (l ++ 10 ∷ rest) in
    then_reads (said (codes "mark ") mark_in) (λ m. option_line (codes "original-oid ") then λ o. pure m) i j j (λ o. (x : ℕ) × (o ≡ Some x) × (x ≡ m)) (λ o. o ≡ Some m)
    (said_reads (codes "mark ") (colon m) mark_in n (l ++ 10 ∷ rest) (λ x. x ≡ m) r (mark_line m h) (λ at. mark_says m at h))
    (λ x e. then_reads (option_line (codes "original-oid ")) (λ o. pure x) j j j (λ o. o ≡ None) (λ o. o ≡ Some m)
    (other_reads (codes "original-oid ") l n rest (room_behind n (10 ∷ []) (l ++ 10 ∷ rest) (room_behind n (codes "mark " ++ colon m) (10 ∷ (l ++ 10 ∷ rest)) r)) k s)
    (λ o d. pure_reads x j (λ o. o ≡ Some m) (e.1 ∙ ap Some e.2)))

-- ---- blobs

abbrev pub blob_lines : ℕ → Bytes → Bytes → Bytes
blob_lines m b rest = codes "blob" ++ 10 ∷ word_text (codes "mark ") (colon m) (data_text b rest)

pub line_behind : (n : ℕ) (l rest : Bytes) → Room n (l ++ 10 ∷ rest) → Room n rest
line_behind n l rest r = room_behind n (10 ∷ []) rest (room_behind n l (10 ∷ rest) r)

blob_read : (m n : ℕ) (b rest : Bytes) → Room n (word_text (codes "mark ") (colon m) (data_text b rest)) → IsMark m →
    Reads (blob true (left n (word_text (codes "mark ") (colon m) (data_text b rest)))) (λ c. c ≡ commands.Blob (Some m) b) (left n rest)
unfolding blob
blob_read m n b rest r h =
    let i = left n (word_text (codes "mark ") (colon m) (data_text b rest)) in
    let q = line_behind n (codes "mark " ++ colon m) (data_text b rest) r in
    then_reads mark_lines (λ m. blob_data then λ d. pure (commands.Blob m d)) i (left n (data_text b rest)) (left n rest) (λ o. o ≡ Some m) (λ c. c ≡ commands.Blob (Some m) b)
    (marks_read m n (codes "data " ++ decimal (length b)) (b ++ 10 ∷ rest) r h (data_line (length b) (data_short n b rest q)) refl)
    (λ o e. then_reads blob_data (λ d. pure (commands.Blob o d)) (left n (data_text b rest)) (left n rest) (left n rest) (λ d. d ≡ b) (λ c. c ≡ commands.Blob (Some m) b)
    (blob_data_reads n b rest q)
    (λ d g. pure_reads (commands.Blob o d) (left n rest) (λ c. c ≡ commands.Blob (Some m) b) (λ k. commands.Blob (e k) (g k))))

blob_kind : command_line (codes "blob") ≡ BlobLine
unfolding command_line
blob_kind = refl

pub blob_turn : (m n : ℕ) (b rest : Bytes) → Room n (blob_lines m b rest) → IsMark m →
    Reads (turn start true (left n (blob_lines m b rest))) (is_command (λ c. c ≡ commands.Blob (Some m) b) start) (left n rest)
blob_turn m n b rest r h =
    between_turn n (codes "blob") (word_text (codes "mark ") (colon m) (data_text b rest)) BlobLine (is_command (λ c. c ≡ commands.Blob (Some m) b) start) (left n rest) r
    (record { plain = refl; seen = refl }) blob_kind
    (λ at. given_reads blob (left n (word_text (codes "mark ") (colon m) (data_text b rest))) (left n rest) at Between (λ c. c ≡ commands.Blob (Some m) b)
    (blob_read m n b rest (line_behind n (codes "blob") _ r) h))

-- ---- people

quiet_plain : (u : Bytes) → is_quiet u ≡ true → no_lf u ≡ true
quiet_plain u e = all_so (λ x. not (nat_eq x 60) && not (nat_eq x 62) && not (nat_eq x 10) && not (nat_eq x 0)) (λ x. not (nat_eq x 10)) (λ x h. second_so _ _ (first_so _ _ h)) u e

number_plain : (most : ℕ) (u : Bytes) → is_number most u ≡ true → no_lf u ≡ true
number_plain most u e = all_so is_digit (λ x. not (nat_eq x 10)) digit_plain u (second_so _ _ e)

sign_plain : (x : ℕ) → is_sign x ≡ true → not (nat_eq x 10) ≡ true
sign_plain x h = grind (arith, nat_tests)

pub ident_plain : (v : Bytes) → is_ident v ≡ true → no_lf v ≡ true
ident_plain v h =
    let i = (ident_law v).0 h in
    let plain : ℕ → Bool = λ x. not (nat_eq x 10) in
    let offset = and_both (sign_plain i.sign i.sign_fits) (number_plain 8 i.zone i.zone_fits) in
    let time = all_front plain i.seconds (32 ∷ i.sign ∷ i.zone) (number_plain 18 i.seconds i.seconds_fit) offset in
    let rest = all_front plain i.email (62 ∷ 32 ∷ (i.seconds ++ 32 ∷ i.sign ∷ i.zone)) (quiet_plain i.email i.email_fits) time in
    ap no_lf i.spelled ∙ all_front plain i.person (60 ∷ (i.email ++ 62 ∷ 32 ∷ (i.seconds ++ 32 ∷ i.sign ∷ i.zone))) (quiet_plain i.person (first_so _ _ i.person_fits)) rest

ident_says : (at : ℕ) (t : Bytes) → is_ident t ≡ true → Says (ident at t) (λ x. x ≡ t)
ident_says at t h = Said t (ap (λ b. cond b (Ok t) (Err (stops.Fault (Syntax at)))) h) refl

abbrev pub people_lines : Bytes → Bytes → Bytes → Bytes
people_lines a c rest = word_text (codes "author ") a (word_text (codes "committer ") c rest)

committer_says : (l : Line) (c : Bytes) → l.bytes ≡ codes "committer " ++ c → is_ident c ≡ true → Says (committer_of l) (λ x. x ≡ c)
committer_says l c e h = subst (λ (t : Bytes). Says (committer_by l.place (strip (codes "committer ") t)) (λ x. x ≡ c)) (sym e) (ident_says l.place c h)

pub people_read : (n : ℕ) (a c rest : Bytes) → Room n (people_lines a c rest) → is_ident a ≡ true → is_ident c ≡ true →
    Reads (people true (left n (people_lines a c rest))) (λ p. p ≡ (a, c)) (left n rest)
unfolding people
people_read n a c rest r h g =
    let i = left n (people_lines a c rest) in
    let j = left n (word_text (codes "committer ") c rest) in
    let k = left n rest in
    then_reads (said (codes "author ") author_in) (λ a. need_line then λ l. judged (committer_of l) then λ c. pure (author_or c a, c)) i j k (λ o. (x : Bytes) × (o ≡ Some x) × (x ≡ a)) (λ p. p ≡ (a, c))
    (said_reads (codes "author ") a author_in n (word_text (codes "committer ") c rest) (λ x. x ≡ a) r (record { plain = ident_plain a h; seen = refl }) (λ at. ident_says at a h))
    (λ o e. then_reads need_line (λ l. judged (committer_of l) then λ c. pure (author_or c o, c)) j k k (λ l. l.bytes ≡ codes "committer " ++ c) (λ p. p ≡ (a, c))
    (need_reads (codes "committer " ++ c) n rest (line_behind n (codes "author " ++ a) _ r) (record { plain = ident_plain c g; seen = refl }))
    (λ l d. then_reads (judged (committer_of l)) (λ c. pure (author_or c o, c)) k k k (λ x. x ≡ c) (λ p. p ≡ (a, c))
    (judged_reads (committer_of l) k (λ x. x ≡ c) (committer_says l c d g))
    (λ x f. pure_reads (author_or x o, x) k (λ p. p ≡ (a, c)) (ap (λ o. (author_or x o, x)) e.1 ∙ (λ s. (e.2 s, f s))))))

-- ---- parents

pub ref_says : (m at : ℕ) → IsMark m → Says (ref_in (record { place = at; bytes = colon m })) (λ r. r.target ≡ targets.Mark m)
unfolding target
ref_says m at h =
    Said (record { at = at; target = targets.Mark m })
    (ap (λ o. (or_fault (Syntax at) o >>= λ n. Ok (targets.Mark n)) >>= λ t. Ok (record { at = at; target = t })) (mark_again m h.some h.small)) refl

abbrev pub all_text : Bytes → Bytes
all_text rest = codes "deleteall" ++ 10 ∷ rest

abbrev pub merge_lines : List ℕ → Bytes → Bytes
merge_lines [] t = t
merge_lines (m ∷ ms) t = word_text (codes "merge ") (colon m) (merge_lines ms t)

abbrev pub from_lines : List ℕ → Bytes → Bytes
from_lines [] t = t
from_lines (m ∷ ms) t = word_text (codes "from ") (colon m) (merge_lines ms t)

abbrev pub targets_of : List CommitRef → List Target
targets_of rs = map (λ (r : CommitRef). r.target) rs

pub targets_push : (done : List CommitRef) (r : CommitRef) → targets_of (done ++ r ∷ []) ≡ targets_of done ++ r.target ∷ []
targets_push [] r = refl
targets_push (d ∷ done) r = ap (λ ts. d.target ∷ ts) (targets_push done r)

merge_read : (m n : ℕ) (rest : Bytes) → Room n (word_text (codes "merge ") (colon m) rest) → IsMark m →
    Reads (ref_line (codes "merge ") true (left n (word_text (codes "merge ") (colon m) rest))) (λ o. (r : CommitRef) × (o ≡ Some r) × (r.target ≡ targets.Mark m)) (left n rest)
unfolding ref_line
merge_read m n rest r h = said_reads (codes "merge ") (colon m) ref_in n rest (λ r. r.target ≡ targets.Mark m) r (record { plain = digits_plain m h.small; seen = refl }) (λ at. ref_says m at h)

from_read : (m n : ℕ) (rest : Bytes) → Room n (word_text (codes "from ") (colon m) rest) → IsMark m →
    Reads (ref_line (codes "from ") true (left n (word_text (codes "from ") (colon m) rest))) (λ o. (r : CommitRef) × (o ≡ Some r) × (r.target ≡ targets.Mark m)) (left n rest)
unfolding ref_line
from_read m n rest r h = said_reads (codes "from ") (colon m) ref_in n rest (λ r. r.target ≡ targets.Mark m) r (record { plain = digits_plain m h.small; seen = refl }) (λ at. ref_says m at h)

none_read : (word l : Bytes) (n : ℕ) (rest : Bytes) → Room n (l ++ 10 ∷ rest) → IsLine l → strip word l ≡ None →
    Reads (ref_line word true (left n (l ++ 10 ∷ rest))) (λ o. o ≡ None) (left n (l ++ 10 ∷ rest))
unfolding ref_line
none_read word l n rest r k h = missing_reads word l ref_in n rest r k h

all_line : IsLine (codes "deleteall")
all_line = record { plain = refl; seen = refl }

merges_read : (k : ℕ) (done : List CommitRef) (ms : List ℕ) (n : ℕ) (rest : Bytes) → Room n (merge_lines ms (all_text rest)) → Each IsMark ms →
    Reads (merges k done true (left n (merge_lines ms (all_text rest)))) (λ rs. targets_of rs ≡ targets_of done ++ map targets.Mark ms) (left n (all_text rest))
merges_read zero done [] n rest r h =
    then_reads (ref_line (codes "merge ")) (more_merges done (λ r. refuse (Limit r.at limits.Parents))) (left n (all_text rest)) (left n (all_text rest)) (left n (all_text rest)) (λ o. o ≡ None) _
    (none_read (codes "merge ") (codes "deleteall") n rest r all_line refl)
    (λ o e. Read done (ap (λ o. more_merges done (λ r. refuse (Limit r.at limits.Parents)) o true (left n (all_text rest))) e) (sym (append-nil (targets_of done))))
merges_read (suc k) done [] n rest r h =
    then_reads (ref_line (codes "merge ")) (more_merges done (λ r. merges k (done ++ r ∷ []))) (left n (all_text rest)) (left n (all_text rest)) (left n (all_text rest)) (λ o. o ≡ None) _
    (none_read (codes "merge ") (codes "deleteall") n rest r all_line refl)
    (λ o e. Read done (ap (λ o. more_merges done (λ r. merges k (done ++ r ∷ [])) o true (left n (all_text rest))) e) (sym (append-nil (targets_of done))))
merges_read zero done (m ∷ ms) n rest r h =
    then_reads (ref_line (codes "merge ")) (more_merges done (λ r. refuse (Limit r.at limits.Parents))) (left n (merge_lines (m ∷ ms) (all_text rest))) (left n (merge_lines ms (all_text rest))) (left n (all_text rest))
    (λ o. (r : CommitRef) × (o ≡ Some r) × (r.target ≡ targets.Mark m)) _
    (merge_read m n (merge_lines ms (all_text rest)) r h.0)
    (λ o e. Limited e.0.at limits.Parents (ap (λ o. more_merges done (λ r. refuse (Limit r.at limits.Parents)) o true (left n (merge_lines ms (all_text rest)))) e.1))
merges_read (suc k) done (m ∷ ms) n rest r h =
    then_reads (ref_line (codes "merge ")) (more_merges done (λ r. merges k (done ++ r ∷ []))) (left n (merge_lines (m ∷ ms) (all_text rest))) (left n (merge_lines ms (all_text rest))) (left n (all_text rest))
    (λ o. (r : CommitRef) × (o ≡ Some r) × (r.target ≡ targets.Mark m)) _
    (merge_read m n (merge_lines ms (all_text rest)) r h.0)
    (λ o e. subst (λ o. Reads (more_merges done (λ r. merges k (done ++ r ∷ [])) o true (left n (merge_lines ms (all_text rest)))) (λ rs. targets_of rs ≡ targets_of done ++ map targets.Mark (m ∷ ms)) (left n (all_text rest))) (sym e.1)
    (reads_so _ _ _ _ (λ rs g. g ∙ ap (λ ts. ts ++ map targets.Mark ms) (targets_push done e.0 ∙ ap (λ t. targets_of done ++ t ∷ []) e.2) ∙ append_assoc (targets_of done) (targets.Mark m ∷ []) (map targets.Mark ms))
    (merges_read k (done ++ e.0 ∷ []) ms n rest (line_behind n (codes "merge " ++ colon m) _ r) h.1)))

abbrev pub Named : List ℕ → Option CommitRef → List CommitRef → Type 0
Named [] f rs = (f ≡ None) × (rs ≡ [])
Named (m ∷ ms) f rs = (r : CommitRef) × (f ≡ Some r) × (r.target ≡ targets.Mark m) × (targets_of rs ≡ map targets.Mark ms)

pub no_targets : (rs : List CommitRef) → targets_of rs ≡ [] → rs ≡ []
no_targets [] e = refl
no_targets (r ∷ rs) e = absurd cc

pub parents_read : (ms : List ℕ) (n : ℕ) (rest : Bytes) → Room n (from_lines ms (all_text rest)) → Each IsMark ms →
    Reads (parents true (left n (from_lines ms (all_text rest)))) (λ q. Named ms q.0 q.1) (left n (all_text rest))
unfolding parents
parents_read [] n rest r h =
    let i = left n (all_text rest) in
    then_reads (ref_line (codes "from ")) (λ f. merges (merges_max f) [] then λ m. pure (f, m)) i i i (λ o. o ≡ None) (λ q. Named [] q.0 q.1)
    (none_read (codes "from ") (codes "deleteall") n rest r all_line refl)
    (λ f e. then_reads (merges (merges_max f) []) (λ m. pure (f, m)) i i i (λ rs. targets_of rs ≡ []) (λ q. Named [] q.0 q.1)
    (merges_read (merges_max f) [] [] n rest r tt)
    (λ rs g. pure_reads (f, rs) i (λ q. Named [] q.0 q.1) (e, no_targets rs g)))
parents_read (m ∷ ms) n rest r h =
    let i = left n (from_lines (m ∷ ms) (all_text rest)) in
    let j = left n (merge_lines ms (all_text rest)) in
    let k = left n (all_text rest) in
    then_reads (ref_line (codes "from ")) (λ f. merges (merges_max f) [] then λ m. pure (f, m)) i j k (λ o. (r : CommitRef) × (o ≡ Some r) × (r.target ≡ targets.Mark m)) (λ q. Named (m ∷ ms) q.0 q.1)
    (from_read m n (merge_lines ms (all_text rest)) r h.0)
    (λ f e. then_reads (merges (merges_max f) []) (λ m. pure (f, m)) j k k (λ rs. targets_of rs ≡ map targets.Mark ms) (λ q. Named (m ∷ ms) q.0 q.1)
    (merges_read (merges_max f) [] ms n rest (line_behind n (codes "from " ++ colon m) _ r) h.1)
    (λ rs g. pure_reads (f, rs) k (λ q. Named (m ∷ ms) q.0 q.1) (e.0, e.1, e.2, g)))

-- ---- heads

ref_byte_plain : (x : ℕ) → is_ref_byte x ≡ true → not (nat_eq x 10) ≡ true
ref_byte_plain x h =
    let low : nat_le 33 x ≡ true = first_so _ _ (first_so _ _ (first_so _ _ (first_so _ _ (first_so _ _ (first_so _ _ (first_so _ _ (first_so _ _ h))))))) in
    plain low
  where
    plain : nat_le 33 x ≡ true → not (nat_eq x 10) ≡ true
    plain l = grind (arith, nat_tests)

pub ref_plain : (t : Bytes) → is_ref_name t ≡ true → no_lf t ≡ true
unfolding is_ref_name
ref_plain t h =
    all_so is_ref_byte (λ x. not (nat_eq x 10)) ref_byte_plain t
    (second_so _ _ (first_so _ _ (first_so _ _ (first_so _ _ (first_so _ _ (first_so _ _ (first_so _ _ h)))))))

pub refname_says : (at : ℕ) (t : Bytes) → is_ref_name t ≡ true → Says (refname at t) (λ x. x ≡ t)
refname_says at t h = Said t (ap (λ b. cond b (Ok t) (Err (stops.Fault (Syntax at)))) h) refl

-- the head of a commit
pub record IsHead (r : Bytes) (number : ℕ) (l : Letter) (ms : List ℕ) (c : Command) : Type 0 where
  pub head : CommitHead
  pub same : c ≡ commands.Commit head
  pub refname : head.refname ≡ r
  pub mark : head.mark ≡ Some number
  pub author : head.author ≡ l.author
  pub committer : head.committer ≡ l.committer
  pub message : head.message ≡ l.message
  pub parents : Named ms head.from head.merges

abbrev pub head_lines : ℕ → Letter → List ℕ → Bytes → Bytes
head_lines m l ms rest =
    word_text (codes "mark ") (colon m) (people_lines l.author l.committer (data_text l.message (from_lines ms (all_text rest))))

pub record IsSigned (l : Letter) : Type 0 where
  pub by : is_ident l.author ≡ true
  pub of : is_ident l.committer ≡ true

head_read : (at : ℕ) (t : Bytes) (m : ℕ) (l : Letter) (ms : List ℕ) (n : ℕ) (rest : Bytes) → Room n (head_lines m l ms rest) → is_ref_name t ≡ true → IsMark m → IsSigned l → Each IsMark ms →
    Reads (head at t true (left n (head_lines m l ms rest))) (IsHead t m l ms) (left n (all_text rest))
unfolding head
head_read at t m l ms n rest r name h s marks =
    let t3 = from_lines ms (all_text rest) in
    let t2 = data_text l.message t3 in
    let t1 = people_lines l.author l.committer t2 in
    let r1 = line_behind n (codes "mark " ++ colon m) t1 r in
    let r2 = line_behind n (codes "committer " ++ l.committer) t2 (line_behind n (codes "author " ++ l.author) (word_text (codes "committer ") l.committer t2) r1) in
    let r3 = line_behind n l.message t3 (line_behind n (codes "data " ++ decimal (length l.message)) (l.message ++ 10 ∷ t3) r2) in
    let i = left n (head_lines m l ms rest) in
    let k = left n (all_text rest) in
    then_reads (judged (refname at t)) (λ r. mark_lines then λ m. people then λ p. message_data then λ d. parents then λ q. pure (commands.Commit (head_of r m p d q))) i i k (λ x. x ≡ t) (IsHead t m l ms)
    (judged_reads (refname at t) i (λ x. x ≡ t) (refname_says at t name))
    (λ x a. then_reads mark_lines (λ m. people then λ p. message_data then λ d. parents then λ q. pure (commands.Commit (head_of x m p d q))) i (left n t1) k (λ o. o ≡ Some m) (IsHead t m l ms)
    (marks_read m n (codes "author " ++ l.author) (word_text (codes "committer ") l.committer t2) r h (record { plain = ident_plain l.author s.by; seen = refl }) refl)
    (λ y b. then_reads people (λ p. message_data then λ d. parents then λ q. pure (commands.Commit (head_of x y p d q))) (left n t1) (left n t2) k (λ p. p ≡ (l.author, l.committer)) (IsHead t m l ms)
    (people_read n l.author l.committer t2 r1 s.by s.of)
    (λ z c. then_reads message_data (λ d. parents then λ q. pure (commands.Commit (head_of x y z d q))) (left n t2) (left n t3) k (λ d. d ≡ l.message) (IsHead t m l ms)
    (message_data_reads n l.message t3 r2)
    (λ u d. then_reads parents (λ q. pure (commands.Commit (head_of x y z u q))) (left n t3) k k (λ q. Named ms q.0 q.1) (IsHead t m l ms)
    (parents_read ms n rest r3 marks)
    (λ q e. pure_reads (commands.Commit (head_of x y z u q)) k (IsHead t m l ms)
    (record { head = head_of x y z u q; same = refl; refname = a; mark = b; author = ap (λ (p : Bytes × Bytes). p.0) c; committer = ap (λ (p : Bytes × Bytes). p.1) c; message = d; parents = e }))))))

abbrev pub commit_lines : Bytes → ℕ → Letter → List ℕ → Bytes → Bytes
commit_lines t m l ms rest = word_text (codes "commit ") t (head_lines m l ms rest)

pub commit_kind : (t : Bytes) → command_line (codes "commit " ++ t) ≡ CommitLine t
unfolding command_line
commit_kind t = refl

pub commit_turn : (t : Bytes) (m : ℕ) (l : Letter) (ms : List ℕ) (n : ℕ) (rest : Bytes) → Room n (commit_lines t m l ms rest) → is_ref_name t ≡ true → IsMark m → IsSigned l → Each IsMark ms →
    Reads (turn start true (left n (commit_lines t m l ms rest))) (is_command (IsHead t m l ms) inside) (left n (all_text rest))
commit_turn t m l ms n rest r name h s marks =
    between_turn n (codes "commit " ++ t) (head_lines m l ms rest) (CommitLine t) (is_command (IsHead t m l ms) inside) (left n (all_text rest)) r
    (record { plain = ref_plain t name; seen = refl }) (commit_kind t)
    (λ at. given_reads (head at t) (left n (head_lines m l ms rest)) (left n (all_text rest)) at InCommit (IsHead t m l ms)
    (head_read at t m l ms n rest (line_behind n (codes "commit " ++ t) _ r) name h s marks))

-- ---- resets

reset_kind : (t : Bytes) → command_line (codes "reset " ++ t) ≡ ResetLine t
unfolding command_line
reset_kind t = refl

-- a line that isn't `from` follows
pub reset_turn : (t : Bytes) (n : ℕ) (l rest : Bytes) → Room n (word_text (codes "reset ") t (l ++ 10 ∷ rest)) → is_ref_name t ≡ true → IsLine l → strip (codes "from ") l ≡ None →
    Reads (turn start true (left n (word_text (codes "reset ") t (l ++ 10 ∷ rest)))) (is_command (λ c. c ≡ commands.Reset t None) start) (left n (l ++ 10 ∷ rest))
unfolding reset
reset_turn t n l rest r name k s =
    let j = left n (l ++ 10 ∷ rest) in
    between_turn n (codes "reset " ++ t) (l ++ 10 ∷ rest) (ResetLine t) (is_command (λ c. c ≡ commands.Reset t None) start) j r
    (record { plain = ref_plain t name; seen = refl }) (reset_kind t)
    (λ at. given_reads (reset at t) j j at Between (λ c. c ≡ commands.Reset t None)
    (then_reads (judged (refname at t)) (λ r. ref_line (codes "from ") then λ f. pure (commands.Reset r f)) j j j (λ x. x ≡ t) (λ c. c ≡ commands.Reset t None)
    (judged_reads (refname at t) j (λ x. x ≡ t) (refname_says at t name))
    (λ x a. then_reads (ref_line (codes "from ")) (λ f. pure (commands.Reset x f)) j j j (λ o. o ≡ None) (λ c. c ≡ commands.Reset t None)
    (none_read (codes "from ") l n rest (line_behind n (codes "reset " ++ t) _ r) k s)
    (λ o b. pure_reads (commands.Reset x o) j (λ c. c ≡ commands.Reset t None) (λ i. commands.Reset (a i) (b i))))))

abbrev pub is_reset : Bytes → ℕ → Command → Type 0
is_reset t m c = (r : CommitRef) × (c ≡ commands.Reset t (Some r)) × (r.target ≡ targets.Mark m)

pub reset_from_turn : (t : Bytes) (m n : ℕ) (rest : Bytes) → Room n (word_text (codes "reset ") t (word_text (codes "from ") (colon m) rest)) → is_ref_name t ≡ true → IsMark m →
    Reads (turn start true (left n (word_text (codes "reset ") t (word_text (codes "from ") (colon m) rest)))) (is_command (is_reset t m) start) (left n rest)
unfolding reset
reset_from_turn t m n rest r name h =
    let i = left n (word_text (codes "from ") (colon m) rest) in
    let j = left n rest in
    between_turn n (codes "reset " ++ t) (word_text (codes "from ") (colon m) rest) (ResetLine t) (is_command (is_reset t m) start) j r
    (record { plain = ref_plain t name; seen = refl }) (reset_kind t)
    (λ at. given_reads (reset at t) i j at Between (is_reset t m)
    (then_reads (judged (refname at t)) (λ r. ref_line (codes "from ") then λ f. pure (commands.Reset r f)) i i j (λ x. x ≡ t) (is_reset t m)
    (judged_reads (refname at t) i (λ x. x ≡ t) (refname_says at t name))
    (λ x a. then_reads (ref_line (codes "from ")) (λ f. pure (commands.Reset x f)) i j j (λ o. (r : CommitRef) × (o ≡ Some r) × (r.target ≡ targets.Mark m)) (is_reset t m)
    (from_read m n rest (line_behind n (codes "reset " ++ t) _ r) h)
    (λ o b. pure_reads (commands.Reset x o) j (is_reset t m) (b.0, (λ i. commands.Reset (a i) (b.1 i)), b.2)))))
