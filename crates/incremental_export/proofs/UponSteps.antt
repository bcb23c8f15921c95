-- What one command makes of a replay upon a base.
use Rattle.std.proofs.Common.{◌≡◌, ℕ, true, false, List, [], ◌∷◌, ◌++◌, length, map, refl, sym, ap, ◌∙◌, subst, Option, Some, None, Result, Ok, Err, append_assoc, append-nil}
use Rattle.std.specs.Prelude.{if◌then◌else◌, nat_lt}
use Rattle.std.specs.Option.{is_some, option_and_then, option_or, option_to_list, unwrap_or}
use Rattle.git_objects.specs.declared.quantity.Quantity.TheVariants.{Parents}
use Rattle.git_objects.specs.Paths.{Bytes, Path}
use Rattle.git_objects.specs.Trees.{Leaf, FileLeaf, ExecLeaf, LinkLeaf, ModuleLeaf, Flat, LeafNode, put, remove}
use Rattle.git_objects.specs.Commits.{Letter}
use Rattle.git_objects.specs.Lists.{Each}
use Rattle.git_objects.specs.Snapshots.{Snapshot}
use Rattle.git_objects.specs.Results.{◌>>=◌, or_refuse, must}
use Rattle.stream_reader.specs.declared.fault.StreamFault.{StreamFault}
use Rattle.stream_reader.specs.declared.fault.StreamFault.TheVariants.{Syntax, Unresolved, Limit}
use Rattle.stream_reader.specs.declared.command.Command.{Command}
use Rattle.stream_reader.specs.declared.command.Command.TheVariants as commands
use Rattle.stream_reader.specs.declared.command.CommitHead.{CommitHead}
use Rattle.stream_reader.specs.declared.command.Change.{Change}
use Rattle.stream_reader.specs.declared.command.Change.TheVariants as changes
use Rattle.stream_reader.specs.declared.command.Placed.{Placed}
use Rattle.stream_reader.specs.declared.commit_ref.CommitRef.{CommitRef}
use Rattle.stream_reader.specs.declared.commit_ref.Target.{Target}
use Rattle.stream_reader.specs.declared.commit_ref.Target.TheVariants as targets
use Rattle.fast_import.specs.Replays.{Base, Replay, Draft, BlobMark, CommitMark, marked, marked_commit, target_name, known, said, branch, first_parent, one_more, with_merges, begun, edited, inline_blob, with_mark, with_branch, command_step, step, empty_base}
use Rattle.fast_import.specs.Replays as replays
use Rattle.fast_export.proofs.Goings.{Steps, Stepped, TooMuch}
use Rattle.fast_export.proofs.Heads.{is_reset, targets_of}
use Rattle.fast_export.proofs.Changing.{leaf_change, is_change}
use Rattle.fast_export.proofs.Stepping.{Committed, Counts, Counted, Passed, Drafting, NamesLeaf, counts_along, end_step, leaf_step}
use Rattle.incremental_export.specs.ChangeTexts.{tree_upon}
use Rattle.incremental_export.proofs.UponParents.{IsHead, ref_target}

-- ---- what no base changes

pub blob_step : (base : Base) (s : Replay) (c : Placed) (m : ℕ) (b : Bytes) → c.command ≡ commands.Blob (Some m) b →
    step base s c ≡ Ok (with_mark (Some m) (BlobMark b) (record s { blobs = s.blobs ++ b ∷ [] }))
blob_step base s c m b e = ap (command_step base s c.at) e

pub reset_step : (base : Base) (s : Replay) (p : Placed) (ref : Bytes) → p.command ≡ commands.Reset ref None → step base s p ≡ Ok (with_branch ref None s)
reset_step base s p ref e = ap (command_step base s p.at) e

pub commit_end_step : (base : Base) (r : Replay) (ref : Bytes) (number : ℕ) (c : Snapshot) (s : Replay) (p : Placed) → Drafting r ref number c.letter c.parents c.tree s → p.command ≡ commands.CommitEnd →
    Steps (step base s p) (Committed r ref number c)
commit_end_step base r ref number c s p d e =
    let same : step empty_base s p ≡ step base s p = ap (command_step empty_base s p.at) e ∙ sym (ap (command_step base s p.at) e) in
    subst (λ o. Steps o (Committed r ref number c)) same (end_step r ref number c s p d e)

-- a leaf by its blob's mark, or a module
put_same : (base : Base) (s : Replay) (c : Placed) (k : ℕ) (p : Path) (x : Leaf) → is_change (leaf_change k p x) c.command → step empty_base s c ≡ step base s c
put_same base s c k p (FileLeaf b) e = ap (command_step empty_base s c.at) e ∙ sym (ap (command_step base s c.at) e)
put_same base s c k p (ExecLeaf b) e = ap (command_step empty_base s c.at) e ∙ sym (ap (command_step base s c.at) e)
put_same base s c k p (LinkLeaf b) e = ap (command_step empty_base s c.at) e ∙ sym (ap (command_step base s c.at) e)
put_same base s c k p (ModuleLeaf n) e = ap (command_step empty_base s c.at) e ∙ sym (ap (command_step base s c.at) e)

pub put_step : (base : Base) (r : Replay) (ref : Bytes) (number : ℕ) (l : Letter) (ps : List Bytes) (t : Flat) (s : Replay) (c : Placed) (k : ℕ) (p : Path) (x : Leaf) → Drafting r ref number l ps t s →
    NamesLeaf s.marks k x → is_change (leaf_change k p x) c.command → Steps (step base s c) (Drafting r ref number l ps (put t p (LeafNode x)))
put_step base r ref number l ps t s c k p x d names e =
    subst (λ o. Steps o (Drafting r ref number l ps (put t p (LeafNode x)))) (put_same base s c k p x e)
    (leaf_step r ref number l ps t (put t p (LeafNode x)) s c k p x d names refl e)

-- ---- a path that is deleted

abbrev changed_by : Base → Replay → ℕ → Change → Draft → Result Replay StreamFault
changed_by base s at c d = edited base s at d.tree c >>= λ t. Ok (record s { blobs = s.blobs ++ inline_blob c; draft = Some (record d { tree = t }) })

pub delete_step : (base : Base) (r : Replay) (ref : Bytes) (number : ℕ) (l : Letter) (ps : List Bytes) (t : Flat) (s : Replay) (c : Placed) (p : Path) → Drafting r ref number l ps t s →
    is_change (changes.Delete p) c.command → Steps (step base s c) (Drafting r ref number l ps (remove t p))
delete_step base r ref number l ps t s c p d e =
    Stepped (record s { blobs = s.blobs ++ []; draft = Some (record { head = d.head; parents = ps; tree = remove t p }) })
    (ap (command_step base s c.at) e ∙ ap (λ o. or_refuse (Syntax c.at) o >>= changed_by base s c.at (changes.Delete p)) d.draft)
    (record { head = d.head; refname = d.refname; mark = d.mark; letter = d.letter; commits = d.commits; branches = d.branches; marks = d.marks; tags = d.tags; draft = refl })

-- ---- parents

-- what a word says names this commit, which is there with a tree
pub record IsKnown (base : Base) (r : Replay) (g : Target) (p : Bytes) (t : Flat) : Type 0 where
  pub name : target_name base r g ≡ Some p
  pub tree : replays.tree_of base r p ≡ Some t

known_is : (base : Base) (r : Replay) (g : Target) (p : Bytes) (c : CommitRef) → target_name base r g ≡ Some p → is_some (replays.tree_of base r p) ≡ true → c.target ≡ g → known base r c ≡ Ok p
known_is base r g p c name there e =
    ap (λ g. or_refuse (Unresolved c.at) (target_name base r g) >>= λ n. must (Unresolved c.at) (is_some (replays.tree_of base r n)) >>= λ u. Ok n) e
    ∙ ap (λ o. or_refuse (Unresolved c.at) o >>= λ n. must (Unresolved c.at) (is_some (replays.tree_of base r n)) >>= λ u. Ok n) name
    ∙ ap (λ b. must (Unresolved c.at) b >>= λ u. Ok p) there

-- these parents are there, with their trees
abbrev pub AreKnown : Base → Replay → (Bytes → Flat) → List (ℕ × Bytes) → List Bytes → Type 0
AreKnown base r tree_of marks ps = Each (λ p. IsKnown base r (ref_target marks p) p (tree_of p)) ps

module _ (base : Base) (r : Replay) (tree_of : Bytes → Flat) (marks : List (ℕ × Bytes)) where
  merges_count : (acc : List Bytes) (cs : List CommitRef) (ps : List Bytes) → targets_of cs ≡ map (ref_target marks) ps → AreKnown base r tree_of marks ps →
      Counts (with_merges base r acc cs) (acc ++ ps)
  merges_count acc [] [] e h = Counted (ap Ok (sym (append-nil acc)))
  merges_count acc [] (p ∷ ps) e h = absurd cc
  merges_count acc (c ∷ cs) [] e h = absurd cc
  merges_count acc (c ∷ cs) (p ∷ ps) e h =
      let target : c.target ≡ ref_target marks p = cc in
      let others : targets_of cs ≡ map (ref_target marks) ps = cc in
      let k = known_is base r (ref_target marks p) p c h.0.name (ap is_some h.0.tree) target in
      let rest = merges_count (acc ++ p ∷ []) cs ps others h.1 in
      let first : with_merges base r acc (c ∷ cs) ≡ one_more c.at acc p >>= λ more. with_merges base r more cs = ap (λ o. o >>= λ n. one_more c.at acc n >>= λ more. with_merges base r more cs) k in
      elim (nat_lt (length acc) 16) as (λ b. nat_lt (length acc) 16 ≡ b → Counts (with_merges base r acc (c ∷ cs)) (acc ++ p ∷ ps)) [
        | true ↦ λ d. counts_along (with_merges base r acc (c ∷ cs)) (with_merges base r (acc ++ p ∷ []) cs) ((acc ++ p ∷ []) ++ ps) (acc ++ p ∷ ps)
            (first ∙ ap (λ b. (if b then Ok (acc ++ p ∷ []) else Err (Limit c.at Parents)) >>= λ more. with_merges base r more cs) d) (append_assoc acc (p ∷ []) ps) rest
        | false ↦ λ d. Passed c.at Parents (first ∙ ap (λ b. (if b then Ok (acc ++ p ∷ []) else Err (Limit c.at Parents)) >>= λ more. with_merges base r more cs) d)
      ] refl

  abbrev head_from : CommitHead → Result (Option Bytes) StreamFault → Result Replay StreamFault
  head_from h o = o >>= λ first. with_merges base r (option_to_list first) h.merges >>= λ ps. Ok (begun base r h first ps)

  begun_is : (ref : Bytes) (number : ℕ) (l : Letter) (qs : List Bytes) (c : Command) (h : IsHead ref number l marks qs c) (first : Option Bytes) (ps : List Bytes) (t : Flat) → replays.tree_upon base r first ≡ t →
      Drafting r ref number l ps t (begun base r h.head first ps)
  begun_is ref number l qs c h first ps t e = record {
    head = h.head;
    refname = h.refname;
    mark = h.mark;
    letter = λ i. record { author = h.author i; committer = h.committer i; message = h.message i };
    commits = refl;
    branches = refl;
    marks = refl;
    tags = refl;
    draft = λ i. Some (record { head = h.head; parents = ps; tree = e i });
  }

  -- the lines of parents name these, and the tree is that of the first
  pub head_step : (ref : Bytes) (number : ℕ) (l : Letter) (ps : List Bytes) (c : Placed) → AreKnown base r tree_of marks ps → (ps ≡ [] → branch r ref ≡ None) → IsHead ref number l marks ps c.command →
      Steps (step base r c) (Drafting r ref number l ps (tree_upon tree_of ps))
  head_step ref number l [] c there none h =
      let from = h.parents.0 in
      let merges = h.parents.1 in
      let first : first_parent base r h.head ≡ Ok None =
      ap (λ f. said base r f >>= λ n. Ok (option_or n (branch r h.head.refname))) from ∙ ap (λ t. Ok (branch r t)) h.refname ∙ ap Ok (none refl) in
      Stepped (begun base r h.head None [])
      (ap (command_step base r c.at) h.same ∙ ap (head_from h.head) first ∙ ap (λ cs. with_merges base r [] cs >>= λ ps. Ok (begun base r h.head None ps)) merges)
      (begun_is ref number l [] c.command h None [] [] refl)
  head_step ref number l (p ∷ ps) c there none h = by (merges_count (p ∷ []) h.head.merges ps h.parents.3 there.1)
    where
      k : known base r h.parents.0 ≡ Ok p
      k = known_is base r (ref_target marks p) p h.parents.0 there.0.name (ap is_some there.0.tree) h.parents.2

      first : first_parent base r h.head ≡ Ok (Some p)
      first =
          ap (λ f. said base r f >>= λ n. Ok (option_or n (branch r h.head.refname))) h.parents.1
          ∙ ap (λ o. (o >>= λ n. Ok (Some n)) >>= λ n. Ok (option_or n (branch r h.head.refname))) k

      there_is : step base r c ≡ with_merges base r (p ∷ []) h.head.merges >>= λ ps. Ok (begun base r h.head (Some p) ps)
      there_is = ap (command_step base r c.at) h.same ∙ ap (head_from h.head) first

      upon : replays.tree_upon base r (Some p) ≡ tree_of p
      upon = let t = there.0.tree in ap (λ o. unwrap_or o []) t

      by : Counts (with_merges base r (p ∷ []) h.head.merges) (p ∷ ps) → Steps (step base r c) (Drafting r ref number l (p ∷ ps) (tree_of p))
      by (Counted e) = Stepped (begun base r h.head (Some p) (p ∷ ps)) (there_is ∙ ap (λ o. o >>= λ ps. Ok (begun base r h.head (Some p) ps)) e)
          (begun_is ref number l (p ∷ ps) c.command h (Some p) (p ∷ ps) (tree_of p) upon)
      by (Passed at which e) = TooMuch at which (there_is ∙ ap (λ o. o >>= λ ps. Ok (begun base r h.head (Some p) ps)) e)

-- ---- a reset to a mark's commit

pub reset_number_step : (base : Base) (s : Replay) (k : ℕ) (p : Placed) (ref n : Bytes) → marked k s.marks ≡ Some (CommitMark n) → is_some (replays.tree_of base s n) ≡ true → is_reset ref k p.command →
    step base s p ≡ Ok (with_branch ref (Some n) s)
reset_number_step base s k p ref n m t h =
    let k : known base s h.0 ≡ Ok n = known_is base s (targets.Mark k) n h.0 (ap (option_and_then marked_commit) m) t h.2 in
    ap (command_step base s p.at) h.1 ∙ ap (λ o. (o >>= λ n. Ok (Some n)) >>= λ n. Ok (with_branch ref n s)) k
