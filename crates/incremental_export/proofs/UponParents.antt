-- What is read of the head of a commit whose parents are named by marks or by digits.
use Rattle.std.proofs.Common.{◌≡◌, ℕ, zero, suc, true, false, cond, List, [], ◌∷◌, ◌++◌, length, map, Option, Some, None, refl, sym, ap, ◌∙◌, subst, append_assoc, append-nil}
use Rattle.std.specs.Prelude.{codes, replicate}
use Rattle.std.specs.Fmt.{decimal}
use Rattle.std.specs.Cmp.{first_so}
use Rattle.git_objects.specs.declared.quantity.Quantity.TheVariants as limits
use Rattle.git_objects.specs.Bodies.{is_name}
use Rattle.git_objects.specs.CommitBodies.{strip}
use Rattle.git_objects.specs.Commits.{Letter, hex}
use Rattle.git_objects.specs.Lists.{Each}
use Rattle.git_objects.specs.Paths.{Bytes, same_bytes}
use Rattle.path_names.specs.RefNames.{is_ref_name}
use Rattle.stream_lex.specs.Cutting.{◌then◌, judged, pure, refuse}
use Rattle.stream_lex.specs.Spelling.{no_lf}
use Rattle.stream_reader.specs.Blocks.{message_data}
use Rattle.stream_reader.specs.Commands.{CommitLine, turn}
use Rattle.stream_reader.specs.Heads.{head, head_of, mark_lines, merges, merges_max, more_merges, parents, people, ref_in, ref_line}
use Rattle.stream_reader.specs.Names.{refname}
use Rattle.stream_reader.specs.Verdicts.{start}
use Rattle.stream_reader.specs.declared.command.Command.{Command}
use Rattle.stream_reader.specs.declared.command.Command.TheVariants as commands
use Rattle.stream_reader.specs.declared.command.CommitHead.{CommitHead}
use Rattle.stream_reader.specs.declared.commit_ref.CommitRef.{CommitRef}
use Rattle.stream_reader.specs.declared.commit_ref.Target.{Target}
use Rattle.stream_reader.specs.declared.commit_ref.Target.TheVariants as targets
use Rattle.stream_reader.specs.declared.fault.StreamFault.TheVariants.{Limit}
use Rattle.stream_reader.specs.declared.progress.Phase.TheVariants.{InCommit}
use Rattle.fast_export.specs.ExportTexts.{is_among, mark_of}
use Rattle.fast_export.proofs.Goings.{Reads, Read, Limited, Says, is_command, judged_reads, then_reads}
use Rattle.fast_export.proofs.Heads.{IsMark, IsSigned, between_turn, colon, commit_kind, given_reads, ident_plain, inside, line_behind, marks_read, no_targets, people_lines, people_read, pure_reads, reads_so, ref_plain, ref_says, refname_says, targets_of, targets_push, word_text}
use Rattle.fast_export.proofs.Marking.{contents}
use Rattle.fast_export.proofs.Numbers.{digits_plain}
use Rattle.fast_export.proofs.ReadLines.{IsLine, Room, data_text, left, message_data_reads, missing_reads, said_reads}
use Rattle.fast_export.proofs.TagReads.{digits_says, lf_free}
use Rattle.incremental_export.specs.ChangeTexts.{commit_ref}

-- ---- what stands for a commit

-- a word that can be read as this target
pub record IsRef (w : Bytes) (g : Target) : Type 0 where
  pub plain : no_lf w ≡ true
  pub says : (at : ℕ) → Says (ref_in (record { place = at; bytes = w })) (λ r. r.target ≡ g)

pub mark_ref : (m : ℕ) → IsMark m → IsRef (colon m) (targets.Mark m)
mark_ref m h = record { plain = digits_plain m h.small; says = λ at. ref_says m at h }

pub digits_ref : (n : Bytes) → is_name n ≡ true → same_bytes n (replicate 20 0) ≡ false → IsRef (hex n) (targets.Digits (record { 0 = n }))
digits_ref n h z = record { plain = lf_free n (first_so _ _ h); says = λ at. digits_says at n h z }

-- what a commit's word says
abbrev pub ref_target : List (ℕ × Bytes) → Bytes → Target
ref_target marks n = cond (is_among n (contents marks)) (targets.Mark (mark_of n marks)) (targets.Digits (record { 0 = n }))

abbrev pub ReadsAs : List (ℕ × Bytes) → Bytes → Type 0
ReadsAs marks p = IsRef (commit_ref marks p) (ref_target marks p)

-- ---- parents

abbrev pub merge_lines : List (ℕ × Bytes) → List Bytes → Bytes → Bytes
merge_lines marks [] t = t
merge_lines marks (p ∷ ps) t = word_text (codes "merge ") (commit_ref marks p) (merge_lines marks ps t)

abbrev pub from_lines : List (ℕ × Bytes) → List Bytes → Bytes → Bytes
from_lines marks [] t = t
from_lines marks (p ∷ ps) t = word_text (codes "from ") (commit_ref marks p) (merge_lines marks ps t)

-- a text that begins with a line that names no parent
pub record Starts (t : Bytes) : Type 0 where
  pub first : Bytes
  pub rest : Bytes
  pub same : t ≡ first ++ 10 ∷ rest
  pub line : IsLine first
  pub no_from : strip (codes "from ") first ≡ None
  pub no_merge : strip (codes "merge ") first ≡ None

abbrev IsSaid : Target → Option CommitRef → Type 0
IsSaid g o = (r : CommitRef) × (o ≡ Some r) × (r.target ≡ g)

merge_read : (w : Bytes) (g : Target) (n : ℕ) (rest : Bytes) → Room n (word_text (codes "merge ") w rest) → IsRef w g →
    Reads (ref_line (codes "merge ") true (left n (word_text (codes "merge ") w rest))) (IsSaid g) (left n rest)
unfolding ref_line
merge_read w g n rest r h = said_reads (codes "merge ") w ref_in n rest (λ r. r.target ≡ g) r (record { plain = h.plain; seen = refl }) h.says

from_read : (w : Bytes) (g : Target) (n : ℕ) (rest : Bytes) → Room n (word_text (codes "from ") w rest) → IsRef w g →
    Reads (ref_line (codes "from ") true (left n (word_text (codes "from ") w rest))) (IsSaid g) (left n rest)
unfolding ref_line
from_read w g n rest r h = said_reads (codes "from ") w ref_in n rest (λ r. r.target ≡ g) r (record { plain = h.plain; seen = refl }) h.says

none_at : (word l : Bytes) (n : ℕ) (rest : Bytes) → Room n (l ++ 10 ∷ rest) → IsLine l → strip word l ≡ None →
    Reads (ref_line word true (left n (l ++ 10 ∷ rest))) (λ o. o ≡ None) (left n (l ++ 10 ∷ rest))
unfolding ref_line
none_at word l n rest r k h = missing_reads word l ref_in n rest r k h

none_read : (word : Bytes) (n : ℕ) (t : Bytes) (s : Starts t) → Room n t → strip word s.first ≡ None → Reads (ref_line word true (left n t)) (λ o. o ≡ None) (left n t)
none_read word n t s r h =
    subst (λ (t : Bytes). Reads (ref_line word true (left n t)) (λ o. o ≡ None) (left n t)) (sym s.same)
    (none_at word s.first n s.rest (subst (Room n) s.same r) s.line h)

module _ (marks : List (ℕ × Bytes)) (t : Bytes) (s : Starts t) where
  abbrev goals : List Bytes → List Target
  goals ps = map (ref_target marks) ps

  merges_read : (k : ℕ) (done : List CommitRef) (ps : List Bytes) (n : ℕ) → Room n (merge_lines marks ps t) → Each (ReadsAs marks) ps →
      Reads (merges k done true (left n (merge_lines marks ps t))) (λ rs. targets_of rs ≡ targets_of done ++ goals ps) (left n t)
  merges_read zero done [] n r h =
      then_reads (ref_line (codes "merge ")) (more_merges done (λ r. refuse (Limit r.at limits.Parents))) (left n t) (left n t) (left n t) (λ o. o ≡ None) _
      (none_read (codes "merge ") n t s r s.no_merge)
      (λ o e. Read done (ap (λ o. more_merges done (λ r. refuse (Limit r.at limits.Parents)) o true (left n t)) e) (sym (append-nil (targets_of done))))
  merges_read (suc k) done [] n r h =
      then_reads (ref_line (codes "merge ")) (more_merges done (λ r. merges k (done ++ r ∷ []))) (left n t) (left n t) (left n t) (λ o. o ≡ None) _
      (none_read (codes "merge ") n t s r s.no_merge)
      (λ o e. Read done (ap (λ o. more_merges done (λ r. merges k (done ++ r ∷ [])) o true (left n t)) e) (sym (append-nil (targets_of done))))
  merges_read zero done (p ∷ ps) n r h =
      then_reads (ref_line (codes "merge ")) (more_merges done (λ r. refuse (Limit r.at limits.Parents))) (left n (merge_lines marks (p ∷ ps) t)) (left n (merge_lines marks ps t)) (left n t)
      (IsSaid (ref_target marks p)) _
      (merge_read (commit_ref marks p) (ref_target marks p) n (merge_lines marks ps t) r h.0)
      (λ o e. Limited e.0.at limits.Parents (ap (λ o. more_merges done (λ r. refuse (Limit r.at limits.Parents)) o true (left n (merge_lines marks ps t))) e.1))
  merges_read (suc k) done (p ∷ ps) n r h =
      then_reads (ref_line (codes "merge ")) (more_merges done (λ r. merges k (done ++ r ∷ []))) (left n (merge_lines marks (p ∷ ps) t)) (left n (merge_lines marks ps t)) (left n t)
      (IsSaid (ref_target marks p)) _
      (merge_read (commit_ref marks p) (ref_target marks p) n (merge_lines marks ps t) r h.0)
      (λ o e. subst (λ o. Reads (more_merges done (λ r. merges k (done ++ r ∷ [])) o true (left n (merge_lines marks ps t))) (λ rs. targets_of rs ≡ targets_of done ++ goals (p ∷ ps)) (left n t)) (sym e.1)
      (reads_so _ _ _ _ (λ rs g. g ∙ ap (λ ts. ts ++ goals ps) (targets_push done e.0 ∙ ap (λ t. targets_of done ++ t ∷ []) e.2) ∙ append_assoc (targets_of done) (ref_target marks p ∷ []) (goals ps))
      (merges_read k (done ++ e.0 ∷ []) ps n (line_behind n (codes "merge " ++ commit_ref marks p) _ r) h.1)))

-- the parents of a head are these
abbrev pub Named : List (ℕ × Bytes) → List Bytes → Option CommitRef → List CommitRef → Type 0
Named marks [] f rs = (f ≡ None) × (rs ≡ [])
Named marks (p ∷ ps) f rs = (r : CommitRef) × (f ≡ Some r) × (r.target ≡ ref_target marks p) × (targets_of rs ≡ map (ref_target marks) ps)

parents_read : (marks : List (ℕ × Bytes)) (ps : List Bytes) (n : ℕ) (t : Bytes) → Starts t → Room n (from_lines marks ps t) → Each (ReadsAs marks) ps →
    Reads (parents true (left n (from_lines marks ps t))) (λ q. Named marks ps q.0 q.1) (left n t)
unfolding parents
parents_read marks [] n t s r h =
    let i = left n t in
    then_reads (ref_line (codes "from ")) (λ f. merges (merges_max f) [] then λ m. pure (f, m)) i i i (λ o. o ≡ None) (λ q. Named marks [] q.0 q.1)
    (none_read (codes "from ") n t s r s.no_from)
    (λ f e. then_reads (merges (merges_max f) []) (λ m. pure (f, m)) i i i (λ rs. targets_of rs ≡ []) (λ q. Named marks [] q.0 q.1)
    (merges_read marks t s (merges_max f) [] [] n r tt)
    (λ rs g. pure_reads (f, rs) i (λ q. Named marks [] q.0 q.1) (e, no_targets rs g)))
parents_read marks (p ∷ ps) n t s r h =
    let i = left n (from_lines marks (p ∷ ps) t) in
    let j = left n (merge_lines marks ps t) in
    let k = left n t in
    then_reads (ref_line (codes "from ")) (λ f. merges (merges_max f) [] then λ m. pure (f, m)) i j k (IsSaid (ref_target marks p)) (λ q. Named marks (p ∷ ps) q.0 q.1)
    (from_read (commit_ref marks p) (ref_target marks p) n (merge_lines marks ps t) r h.0)
    (λ f e. then_reads (merges (merges_max f) []) (λ m. pure (f, m)) j k k (λ rs. targets_of rs ≡ map (ref_target marks) ps) (λ q. Named marks (p ∷ ps) q.0 q.1)
    (merges_read marks t s (merges_max f) [] ps n (line_behind n (codes "from " ++ commit_ref marks p) _ r) h.1)
    (λ rs g. pure_reads (f, rs) k (λ q. Named marks (p ∷ ps) q.0 q.1) (e.0, e.1, e.2, g)))

-- ---- heads

-- the head of a commit
pub record IsHead (r : Bytes) (number : ℕ) (l : Letter) (marks : List (ℕ × Bytes)) (ps : List Bytes) (c : Command) : Type 0 where
  pub head : CommitHead
  pub same : c ≡ commands.Commit head
  pub refname : head.refname ≡ r
  pub mark : head.mark ≡ Some number
  pub author : head.author ≡ l.author
  pub committer : head.committer ≡ l.committer
  pub message : head.message ≡ l.message
  pub parents : Named marks ps head.from head.merges

abbrev pub head_lines : ℕ → Letter → List (ℕ × Bytes) → List Bytes → Bytes → Bytes
head_lines m l marks ps t =
    word_text (codes "mark ") (colon m) (people_lines l.author l.committer (data_text l.message (from_lines marks ps t)))

head_read : (at : ℕ) (x : Bytes) (m : ℕ) (l : Letter) (marks : List (ℕ × Bytes)) (ps : List Bytes) (n : ℕ) (t : Bytes) → Starts t → Room n (head_lines m l marks ps t) → is_ref_name x ≡ true →
    IsMark m → IsSigned l → Each (ReadsAs marks) ps → Reads (head at x true (left n (head_lines m l marks ps t))) (IsHead x m l marks ps) (left n t)
unfolding head
head_read at x m l marks ps n t st r name h s named =
    let t3 = from_lines marks ps t in
    let t2 = data_text l.message t3 in
    let t1 = people_lines l.author l.committer t2 in
    let r1 = line_behind n (codes "mark " ++ colon m) t1 r in
    let r2 = line_behind n (codes "committer " ++ l.committer) t2 (line_behind n (codes "author " ++ l.author) (word_text (codes "committer ") l.committer t2) r1) in
    let r3 = line_behind n l.message t3 (line_behind n (codes "data " ++ decimal (length l.message)) (l.message ++ 10 ∷ t3) r2) in
    let i = left n (head_lines m l marks ps t) in
    let k = left n t in
    let Goal : Command → Type 0 = IsHead x m l marks ps in
    then_reads (judged (refname at x)) (λ r. mark_lines then λ m. people then λ p. message_data then λ d. parents then λ q. pure (commands.Commit (head_of r m p d q))) i i k (λ y. y ≡ x) Goal
    (judged_reads (refname at x) i (λ y. y ≡ x) (refname_says at x name))
    (λ y0 a. then_reads mark_lines (λ m. people then λ p. message_data then λ d. parents then λ q. pure (commands.Commit (head_of y0 m p d q))) i (left n t1) k (λ o. o ≡ Some m) Goal
    (marks_read m n (codes "author " ++ l.author) (word_text (codes "committer ") l.committer t2) r h (record { plain = ident_plain l.author s.by; seen = refl }) refl)
    (λ y b. then_reads people (λ p. message_data then λ d. parents then λ q. pure (commands.Commit (head_of y0 y p d q))) (left n t1) (left n t2) k (λ p. p ≡ (l.author, l.committer)) Goal
    (people_read n l.author l.committer t2 r1 s.by s.of)
    (λ z c. then_reads message_data (λ d. parents then λ q. pure (commands.Commit (head_of y0 y z d q))) (left n t2) (left n t3) k (λ d. d ≡ l.message) Goal
    (message_data_reads n l.message t3 r2)
    (λ u d. then_reads parents (λ q. pure (commands.Commit (head_of y0 y z u q))) (left n t3) k k (λ q. Named marks ps q.0 q.1) Goal
    (parents_read marks ps n t st r3 named)
    (λ q e. pure_reads (commands.Commit (head_of y0 y z u q)) k Goal
    (record { head = head_of y0 y z u q; same = refl; refname = a; mark = b; author = ap (λ (p : Bytes × Bytes). p.0) c; committer = ap (λ (p : Bytes × Bytes). p.1) c; message = d; parents = e }))))))

abbrev pub commit_lines : Bytes → ℕ → Letter → List (ℕ × Bytes) → List Bytes → Bytes → Bytes
commit_lines x m l marks ps t = word_text (codes "commit ") x (head_lines m l marks ps t)

pub commit_turn : (x : Bytes) (m : ℕ) (l : Letter) (marks : List (ℕ × Bytes)) (ps : List Bytes) (n : ℕ) (t : Bytes) → Starts t → Room n (commit_lines x m l marks ps t) → is_ref_name x ≡ true →
    IsMark m → IsSigned l → Each (ReadsAs marks) ps →
    Reads (turn start true (left n (commit_lines x m l marks ps t))) (is_command (IsHead x m l marks ps) inside) (left n t)
commit_turn x m l marks ps n t st r name h s named =
    between_turn n (codes "commit " ++ x) (head_lines m l marks ps t) (CommitLine x) (is_command (IsHead x m l marks ps) inside) (left n t) r
    (record { plain = ref_plain x name; seen = refl }) (commit_kind x)
    (λ at. given_reads (head at x) (left n (head_lines m l marks ps t)) (left n t) at InCommit (IsHead x m l marks ps)
    (head_read at x m l marks ps n t st (line_behind n (codes "commit " ++ x) _ r) name h s named))
