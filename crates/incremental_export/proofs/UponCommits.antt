-- Reading and replaying an incremental export upon a base, commit by commit.
use Rattle.std.proofs.Common.{◌≡◌, inr, ℕ, ◌+◌, ◌^◌, ◌<◌, ◌≤◌, true, false, cond, T, List, [], ◌∷◌, ◌++◌, length, map, refl, sym, ap, ◌∙◌, subst, Some, None, append_assoc, append-nil, arith}
use Rattle.std.specs.Prelude.{codes, if◌then◌else◌}
use Rattle.std.specs.Option.{option_and_then}
use Rattle.std.specs.List.{enumerate_from}
use Rattle.std.specs.Fmt.{decimal}
use Rattle.std.specs.FinMap.{put as put_entry}
use Rattle.git_objects.specs.Paths.{Bytes, Path, is_path}
use Rattle.git_objects.specs.Trees.{Leaf, is_leaf, Flat}
use Rattle.git_objects.specs.Commits.{Letter, hex}
use Rattle.git_objects.specs.Lists.{Each}
use Rattle.git_objects.specs.Refs.{bytes_cmp}
use Rattle.git_objects.specs.Snapshots.{Snapshot}
use Rattle.path_names.specs.RefNames.{is_ref_name}
use Rattle.stream_reader.specs.declared.command.Command.TheVariants as commands
use Rattle.stream_reader.specs.declared.commit_ref.Target.TheVariants as targets
use Rattle.stream_reader.specs.Verdicts.{start}
use Rattle.fast_import.specs.Replays.{Base, Replay, Marked, BlobMark, CommitMark, branch, marked_commit, named_tree, step, target_name, value_at, with_branch, with_mark}
use Rattle.fast_export.specs.ExportTexts.{is_among, mark_of}
use Rattle.fast_export.proofs.Arriving.{After, Few, NotZero, Ready, Standing, T-true, after_commit, blob_few, blob_room, data_longer, few_mark, leaf_readable, leaves_longer, put_one, room_less, steps_so, unset, word_longer}
use Rattle.fast_export.proofs.Changing.{end_turn}
use Rattle.fast_export.proofs.Goings.{Stepped}
use Rattle.fast_export.proofs.Heads.{IsMark, IsSigned, blob_lines, blob_turn, colon, inside, ref_plain, reset_turn, word_text}
use Rattle.fast_export.proofs.Marking.{AreMarked, HasBlob, contents, newer_marked, older_marked}
use Rattle.fast_export.proofs.ReadLines.{Room, data_text, left}
use Rattle.fast_export.proofs.Stepping.{Committed, Drafting}
use Rattle.fast_export.proofs.Texts.{blobs_lines, leaves_lines, start_lines}
use Rattle.incremental_export.specs.Changes.{with_all, without_all}
use Rattle.incremental_export.specs.ChangeTexts.{commit_ref, gone, new, tree_upon}
use Rattle.incremental_export.specs.Laws.{IsParent}
use Rattle.incremental_export.proofs.UponChanges.{IsPuttable, change_starts, deletes_arrive, deletes_longer, puts_arrive}
use Rattle.incremental_export.proofs.UponGoings.{Arrives, command_goes, goes, stays}
use Rattle.incremental_export.proofs.UponParents.{IsHead, IsRef, ReadsAs, Starts, commit_lines, commit_turn, digits_ref, from_lines, mark_ref, merge_lines, ref_target}
use Rattle.incremental_export.proofs.UponSteps.{AreKnown, IsKnown, blob_step, commit_end_step, head_step, reset_step}
use Rattle.incremental_export.proofs.UponTexts.{change_lines}

-- ---- blobs

pub blobs_arrive : (base : Base) (n : ℕ) (ref : Bytes) (made : List Snapshot) (fs : List Bytes) (blobs names : List (ℕ × Bytes)) (top : ℕ) (rest : Bytes) (s : Replay) →
    Room n (blobs_lines (enumerate_from top fs) rest) → Few n top (blobs_lines (enumerate_from top fs) rest) → Standing ref made blobs names top s →
    Arrives base start (left n (blobs_lines (enumerate_from top fs) rest)) s start (left n rest) (Standing ref made (blobs ++ enumerate_from top fs) names (top + length (enumerate_from top fs)))
blobs_arrive base n ref made [] blobs names top rest s r f h =
    let e : top ≡ top + 0 = omega arith in
    stays base start (left n rest) s (Standing ref made (blobs ++ []) names (top + 0)) (subst (λ k. Standing ref made (blobs ++ []) names k s) e (subst (λ b. Standing ref made b names top s) (sym (append-nil blobs)) h))
blobs_arrive base n ref made (b ∷ fs) blobs names top rest s r f h =
    let t = blobs_lines (enumerate_from (top + 1) fs) rest in
    let e : top + 1 + length (enumerate_from (top + 1) fs) ≡ top + length (enumerate_from top (b ∷ fs)) = omega arith in
    let goal = Standing ref made (blobs ++ enumerate_from top (b ∷ fs)) names (top + length (enumerate_from top (b ∷ fs))) in
    goes base start start start (left n (blob_lines top b t)) (left n t) (left n rest) s (Standing ref made (blobs ++ (top, b) ∷ []) names (top + 1)) goal
    (command_goes base start start (left n (blob_lines top b t)) (left n t) s (λ c. c ≡ commands.Blob (Some top) b) (Standing ref made (blobs ++ (top, b) ∷ []) names (top + 1))
    (blob_turn top n b t r (few_mark n top (blob_lines top b t) f r.most))
    (λ c k. Stepped (with_mark (Some top) (BlobMark b) (record s { blobs = s.blobs ++ b ∷ [] })) (blob_step base s c top b k)
    (record { commits = h.commits; branches = h.branches; files = newer_marked BlobMark blobs top s.marks b f.some h.files; heads = older_marked CommitMark names top s.marks (BlobMark b) h.heads; tags = h.tags })))
    (λ u g. subst (λ (S : Replay → Type 0). Arrives base start (left n t) u start (left n rest) S)
    (λ i. Standing ref made (append_assoc blobs ((top, b) ∷ []) (enumerate_from (top + 1) fs) i) names (e i))
    (blobs_arrive base n ref made fs (blobs ++ (top, b) ∷ []) names (top + 1) rest u (blob_room n top b t r) (blob_few n top b t f) g))

-- ---- leaves

-- what is known of a leaf that is put
pub record IsSound (e : Path × Leaf) : Type 0 where
  pub path : T (is_path e.0)
  pub leaf : T (is_leaf e.1)
  pub zero : NotZero e

all_puttable : (blobs : List (ℕ × Bytes)) (top : ℕ) (marks : List (ℕ × Marked)) (es : Flat) → AreMarked BlobMark blobs top marks → top ≤ 2 ^ 30 → Each (HasBlob (contents blobs)) es → Each IsSound es →
    Each (IsPuttable blobs marks) es
all_puttable blobs top marks [] m l h s = tt
all_puttable blobs top marks ((p, x) ∷ es) m l h s =
    let both = leaf_readable blobs top marks p x m l h.0 s.0.leaf s.0.zero in
    (record { path = T-true (is_path p) s.0.path; reads = both.0; names = both.1 }, all_puttable blobs top marks es m l h.1 s.1)

-- ---- parents

module _ (tree_of : Bytes → Flat) (base : Base) (made : List Snapshot) (names : List (ℕ × Bytes)) (top : ℕ) where
  parent_reads : (marks : List (ℕ × Marked)) (p : Bytes) → top ≤ 2 ^ 30 → AreMarked CommitMark names top marks → IsParent tree_of base made p → ReadsAs names p
  parent_reads marks p l m h =
      elim (is_among p (contents names)) as (λ b. is_among p (contents names) ≡ b →
      IsRef (if b then codes ":" ++ decimal (mark_of p names) else hex p) (cond b (targets.Mark (mark_of p names)) (targets.Digits (record { 0 = p })))) [
        | true ↦ λ e. let g = m p e in let low = g.low in mark_ref (mark_of p names) (record { some = g.some; small = omega arith })
        | false ↦ λ e. digits_ref p h.name h.some
      ] refl

  all_read : (marks : List (ℕ × Marked)) (ps : List Bytes) → top ≤ 2 ^ 30 → AreMarked CommitMark names top marks → Each (IsParent tree_of base made) ps → Each (ReadsAs names) ps
  all_read marks [] l m h = tt
  all_read marks (p ∷ ps) l m h = (parent_reads marks p l m h.0, all_read marks ps l m h.1)

  parent_known : (u : Replay) (p : Bytes) → u.commits ≡ made → AreMarked CommitMark names top u.marks → IsParent tree_of base made p → IsKnown base u (ref_target names p) p (tree_of p)
  parent_known u p e m h = record {
    name = elim (is_among p (contents names)) as (λ b. is_among p (contents names) ≡ b → target_name base u (cond b (targets.Mark (mark_of p names)) (targets.Digits (record { 0 = p }))) ≡ Some p) [
      | true ↦ λ g. ap (option_and_then marked_commit) (m p g).names
      | false ↦ λ g. refl
    ] refl;
    tree = ap (λ (cs : List Snapshot). value_at p (map named_tree cs ++ base.commits)) e ∙ h.there;
  }

  all_known : (u : Replay) (ps : List Bytes) → u.commits ≡ made → AreMarked CommitMark names top u.marks → Each (IsParent tree_of base made) ps → AreKnown base u tree_of names ps
  all_known u [] e m h = tt
  all_known u (p ∷ ps) e m h = (parent_known u p e m h.0, all_known u ps e m h.1)

-- ---- lengths

merges_longer : (marks : List (ℕ × Bytes)) (ps : List Bytes) (t : Bytes) → length t ≤ length (merge_lines marks ps t)
merges_longer marks [] t = omega arith
merges_longer marks (p ∷ ps) t = omega (arith, merges_longer marks ps t, word_longer (codes "merge ") (commit_ref marks p) (merge_lines marks ps t))

from_longer : (marks : List (ℕ × Bytes)) (ps : List Bytes) (t : Bytes) → length t ≤ length (from_lines marks ps t)
from_longer marks [] t = omega arith
from_longer marks (p ∷ ps) t = omega (arith, merges_longer marks ps t, word_longer (codes "from ") (commit_ref marks p) (merge_lines marks ps t))

pub commit_longer : (ref : Bytes) (k : ℕ) (l : Letter) (marks : List (ℕ × Bytes)) (ps : List Bytes) (t : Bytes) → length t < length (commit_lines ref k l marks ps t)
commit_longer ref k l marks ps t =
    let t3 = from_lines marks ps t in
    let t4 = data_text l.message t3 in
    let t5 = word_text (codes "committer ") l.committer t4 in
    let t6 = word_text (codes "author ") l.author t5 in
    let t7 = word_text (codes "mark ") (colon k) t6 in
    omega (arith, from_longer marks ps t, data_longer l.message t3, word_longer (codes "committer ") l.committer t4, word_longer (codes "author ") l.author t5, word_longer (codes "mark ") (colon k) t6, word_longer (codes "commit ") ref t7)

-- ---- a commit

-- what is known of a commit, of which the blobs have marks
pub record IsGood (tree_of : Bytes → Flat) (base : Base) (made : List Snapshot) (blobs : List (ℕ × Bytes)) (c : Snapshot) : Type 0 where
  pub signed : IsSigned c.letter
  pub deletes : Each (λ p. is_path p ≡ true) (gone tree_of c)
  pub files : Each (HasBlob (contents blobs)) (new tree_of c)
  pub puts : Each IsSound (new tree_of c)
  pub parents : Each (IsParent tree_of base made) c.parents
  pub turned : with_all (new tree_of c) (without_all (gone tree_of c) (tree_upon tree_of c.parents)) ≡ c.tree

module _ (tree_of : Bytes → Flat) (base : Base) (n : ℕ) (ref : Bytes) (made : List Snapshot) (blobs names : List (ℕ × Bytes)) (number : ℕ) (c : Snapshot) (rest : Bytes) where
  abbrev puts_text : Bytes
  puts_text = leaves_lines blobs (new tree_of c) (10 ∷ rest)

  abbrev changes_text : Bytes
  changes_text = change_lines blobs (gone tree_of c) (new tree_of c) rest

  abbrev whole_text : Bytes
  whole_text = commit_lines ref number c.letter names c.parents changes_text

  abbrev emptied : Flat
  emptied = without_all (gone tree_of c) (tree_upon tree_of c.parents)

  abbrev drafts : Replay → Flat → Replay → Type 0
  drafts u t s = Drafting u ref number c.letter c.parents t s

  pub body_arrives : (u : Replay) → is_ref_name ref ≡ true → IsGood tree_of base made blobs c → IsMark number →
      Room n (commit_lines ref number c.letter names c.parents (change_lines blobs (gone tree_of c) (new tree_of c) rest)) → Standing ref made blobs names number u → (c.parents ≡ [] → branch u ref ≡ None) →
      Arrives base start (left n (commit_lines ref number c.letter names c.parents (change_lines blobs (gone tree_of c) (new tree_of c) rest))) u start (left n rest) (After ref made blobs names number c)
  body_arrives u name good mark r h none =
      goes base start inside start (left n whole_text) (left n changes_text) (left n rest) u (drafts u (tree_upon tree_of c.parents)) (After ref made blobs names number c)
      (command_goes base start inside (left n whole_text) (left n changes_text) u (IsHead ref number c.letter names c.parents) (drafts u (tree_upon tree_of c.parents))
      (commit_turn ref number c.letter names c.parents n changes_text starts r name mark good.signed (all_read tree_of base made names number u.marks c.parents most h.heads good.parents))
      (λ p g. head_step base u tree_of names ref number c.letter c.parents p (all_known tree_of base made names number u c.parents h.commits h.heads good.parents) none g))
      (λ v d. goes base inside inside start (left n changes_text) (left n puts_text) (left n rest) v (drafts u emptied) (After ref made blobs names number c)
      (deletes_arrive base n u ref number c.letter c.parents (gone tree_of c) (tree_upon tree_of c.parents) puts_text v good.deletes room_changes d)
      (λ w e. goes base inside inside start (left n puts_text) (left n (10 ∷ rest)) (left n rest) w (drafts u (with_all (new tree_of c) emptied)) (After ref made blobs names number c)
      (puts_arrive base n u ref number c.letter c.parents blobs (new tree_of c) emptied (10 ∷ rest) w puttable room_puts e)
      (λ x f. command_goes base inside start (left n (10 ∷ rest)) (left n rest) x (λ k. k ≡ commands.CommitEnd) (After ref made blobs names number c) (end_turn n rest room_end)
      (λ p g. steps_so (step base x p) (Committed u ref number c) (After ref made blobs names number c) (λ s y. after_commit ref made blobs names number c u s mark.some h y)
      (commit_end_step base u ref number c x p (subst (λ t. Drafting u ref number c.letter c.parents t x) good.turned f) g)))))
    where
      most : number ≤ 2 ^ 30
      most = let s = mark.small in omega arith

      puttable : Each (IsPuttable blobs u.marks) (new tree_of c)
      puttable = all_puttable blobs number u.marks (new tree_of c) h.files most good.files good.puts

      starts : Starts changes_text
      starts = change_starts blobs u.marks (gone tree_of c) (new tree_of c) rest puttable

      room_changes : Room n changes_text
      room_changes = room_less n whole_text changes_text r (let l : length changes_text < length whole_text = commit_longer ref number c.letter names c.parents changes_text in omega arith)

      room_puts : Room n puts_text
      room_puts = room_less n changes_text puts_text room_changes (deletes_longer (gone tree_of c) puts_text)

      room_end : Room n (10 ∷ rest)
      room_end = room_less n puts_text (10 ∷ rest) room_puts (leaves_longer blobs (new tree_of c) (10 ∷ rest))

-- ---- the reset before a first commit

pub start_arrives : (base : Base) (n : ℕ) (ref : Bytes) (made : List Snapshot) (blobs names : List (ℕ × Bytes)) (top : ℕ) (ps : List Bytes) (more : Bytes) (s : Replay) → is_ref_name ref ≡ true →
    Room n (start_lines ref ps (word_text (codes "commit ") ref more)) → Standing ref made blobs names top s →
    Arrives base start (left n (start_lines ref ps (word_text (codes "commit ") ref more))) s start (left n (word_text (codes "commit ") ref more)) (Ready ref made blobs names top ps)
start_arrives base n ref made blobs names top [] more s name r h =
    let t = word_text (codes "commit ") ref more in
    let put : put_entry bytes_cmp ref None s.branches ≡ (ref, None) ∷ [] = put_one ref None s.branches h.branches in
    command_goes base start start (left n (word_text (codes "reset ") ref t)) (left n t) s (λ c. c ≡ commands.Reset ref None) (Ready ref made blobs names top [])
    (reset_turn ref n (codes "commit " ++ ref) more r name (record { plain = ref_plain ref name; seen = refl }) refl)
    (λ p g. Stepped (with_branch ref None s) (reset_step base s p ref g)
    (record { commits = h.commits; branches = inr (None, put); files = h.files; heads = h.heads; tags = h.tags }, λ e. unset (with_branch ref None s) ref put))
start_arrives base n ref made blobs names top (p ∷ ps) more s name r h =
    stays base start (left n (word_text (codes "commit ") ref more)) s (Ready ref made blobs names top (p ∷ ps)) (h, λ e. absurd (no_parents p ps e))
  where
    no_parents : (p : Bytes) (ps : List Bytes) → p ∷ ps ≡ [] → ⊥
    no_parents p ps e = cc
