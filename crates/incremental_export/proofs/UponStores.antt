-- Commits of a store that are new upon a base.
use Rattle.std.proofs.Common.{◌≡◌, true, false, cond, not, ◌||◌, List, [], ◌∷◌, ◌++◌, map, Option, Some, refl, sym, ap, ◌∙◌, subst, append_assoc}
use Rattle.std.specs.Prelude.{if◌then◌else◌, replicate}
use Rattle.std.specs.List.{cons_option, list_all}
use Rattle.std.specs.Option.{option_map, option_map_or}
use Rattle.std.specs.Cmp.{first_so, second_so}
use Rattle.std.specs.Cmp.Lexicographic.{bytes_decides}
use Rattle.std.proofs.lemmas.List.Elements.{filter_map-append}
use Rattle.git_objects.specs.Bodies.{is_name}
use Rattle.git_objects.specs.Commits.{Commit}
use Rattle.git_objects.specs.Lists.{Each}
use Rattle.git_objects.specs.Paths.{Bytes, same_bytes}
use Rattle.git_objects.specs.Snapshots.{Snapshot, snapshot_name}
use Rattle.git_objects.specs.Trees.{Flat, IsTree}
use Rattle.git_objects.specs.declared.kind.Kind.TheVariants.{Commit as CommitKind}
use Rattle.git_objects.proofs.Basics.{and_both, same_bytes-back}
use Rattle.git_objects.proofs.IdentSpelling.{not-false}
use Rattle.object_store.specs.Objects.{IsStore, Object, has}
use Rattle.object_store.specs.StoredSnapshots.{commit_named, snapshot_of}
use Rattle.object_store.specs.Unfolding.{flat}
use Rattle.object_store.proofs.Parts.{find-has}
use Rattle.object_store.proofs.StoredCommits.{stored-commit}
use Rattle.object_store.proofs.Unfolding.{unfolding_law}
use Rattle.fast_import.specs.Replays.{Base, named_tree, value_at}
use Rattle.fast_export.specs.ExportTexts.{is_among}
use Rattle.fast_export.specs.Histories.{parents_in, snapshots_at}
use Rattle.fast_export.proofs.Marking.{among_either}
use Rattle.fast_export.proofs.Numbers.{all_front}
use Rattle.fast_export.proofs.StoredHistories.{IsStoredCommit, one_commit, told_commit}
use Rattle.incremental_export.specs.Histories.{HasParents, IsThere, StoredNewLaw, are_behind, tree_in}
use Rattle.incremental_export.specs.Laws.{AreNewUpon, IsParent}

-- ---- a commit of a store

record IsHeld (S : List Object) (n : Bytes) : Type 0 where
  commit : Commit
  stored : IsStoredCommit S n commit
  parents : Each (λ p. has CommitKind S p ≡ true) commit.parents

held : (S : List Object) (n : Bytes) → IsStore S → has CommitKind S n ≡ true → IsHeld S n
held S n s h =
    let k = stored-commit S n s h in
    record { commit = k.commit; stored = told_commit S n _ k.commit s h (sym (find-has S CommitKind n s h)) (sym k.read); parents = k.parents }

first_is : (S : List Object) (n : Bytes) (ns : List Bytes) (c : Commit) → IsStoredCommit S n c → snapshots_at S (n ∷ ns) ≡ snapshot_of S c ∷ snapshots_at S ns
first_is S n ns c k = ap (λ (o : Option Commit). cons_option (option_map (snapshot_of S) o) (snapshots_at S ns)) k.read

tree_is : (S : List Object) (n : Bytes) (c : Commit) → IsStoredCommit S n c → tree_in S n ≡ flat S c.tree
tree_is S n c k = ap (λ (o : Option Commit). option_map_or (λ (c : Commit). flat S c.tree) o []) k.read

parents_are : (S : List Object) (n : Bytes) (c : Commit) → IsStoredCommit S n c → parents_in S n ≡ c.parents
parents_are S n c k = ap (λ (o : Option Commit). option_map_or (λ (c : Commit). c.parents) o []) k.read

is_tree : (S : List Object) (n : Bytes) → IsStore S → has CommitKind S n ≡ true → IsTree (tree_in S n)
is_tree S n s h = let k = held S n s h in subst IsTree (sym (tree_is S n k.commit k.stored)) (unfolding_law S k.commit.tree s k.stored.tree).tree

-- ---- the trees behind names

module _ (S : List Object) (base : Base) (store : IsStore S) where
  -- of a name that is one of these it is the store's
  value_is : (p : Bytes) (bs : List Bytes) → list_all (has CommitKind S) bs ≡ true →
      value_at p (map named_tree (snapshots_at S bs) ++ base.commits) ≡ cond (is_among p bs) (Some (tree_in S p)) (value_at p base.commits)
  value_is p [] h = refl
  value_is p (b ∷ bs) h =
      let k = held S b store (first_so _ _ h) in
      let more : Option Flat = value_at p (map named_tree (snapshots_at S bs) ++ base.commits) in
      let rest = value_is p bs (second_so _ _ h) in
      ap (λ (cs : List Snapshot). value_at p (map named_tree cs ++ base.commits)) (first_is S b bs k.commit k.stored)
      ∙ ap (λ (n : Bytes). if same_bytes n p then Some (flat S k.commit.tree) else more) k.stored.named
      ∙ ap (λ t. if t then Some (flat S k.commit.tree) else more) (same_bytes-back b p)
      ∙ elim (same_bytes p b) as (λ t. same_bytes p b ≡ t → (if t then Some (flat S k.commit.tree) else more) ≡ cond (t || is_among p bs) (Some (tree_in S p)) (value_at p base.commits)) [
        | true ↦ λ e. ap Some (sym (ap (tree_in S) ((bytes_decides p b).0 e) ∙ tree_is S b k.commit k.stored))
        | false ↦ λ e. rest
      ] refl

  module _ (whole bs : List Bytes) (n : Bytes) (ns : List Bytes) (made : list_all (has CommitKind S) bs ≡ true) (all : bs ++ n ∷ ns ≡ whole) where
    there : (p : Bytes) → not (is_among p (n ∷ ns)) ≡ true → IsThere S base whole p → value_at p (map named_tree (snapshots_at S bs) ++ base.commits) ≡ Some (tree_in S p)
    there p behind h =
        value_is p bs made
        ∙ elim (is_among p bs) as (λ t. is_among p bs ≡ t → cond t (Some (tree_in S p)) (value_at p base.commits) ≡ Some (tree_in S p)) [
          | true ↦ λ e. refl
          | false ↦ λ e. h (ap (is_among p) (sym all) ∙ among_either p bs (n ∷ ns) e ∙ not-false (is_among p (n ∷ ns)) behind)
        ] refl

    are_parents : (ps : List Bytes) → Each (λ p. has CommitKind S p ≡ true) ps → list_all is_name ps ≡ true → list_all (λ p. not (is_among p (n ∷ ns))) ps ≡ true →
        Each (λ p. IsThere S base whole p × (same_bytes p (replicate 20 0) ≡ false)) ps → Each (IsParent (tree_in S) base (snapshots_at S bs)) ps
    are_parents [] h names behind t = tt
    are_parents (p ∷ ps) h names behind t = (
      record { there = there p (first_so _ _ behind) t.0.0; tree = is_tree S p store h.0; name = first_so _ _ names; some = t.0.1 },
      are_parents ps h.1 (second_so _ _ names) (second_so _ _ behind) t.1,
    )

  -- ---- all commits

  upon : (whole bs ns : List Bytes) → list_all (has CommitKind S) bs ≡ true → list_all (has CommitKind S) ns ≡ true → are_behind S ns ≡ true → Each (HasParents S base whole) ns → bs ++ ns ≡ whole →
      AreNewUpon (tree_in S) base (snapshots_at S bs) (snapshots_at S ns)
  upon whole bs [] made h behind parents all = tt
  upon whole bs (n ∷ ns) made h behind parents all =
      let k = held S n store (first_so _ _ h) in
      let c = k.commit in
      let are : parents_in S n ≡ c.parents = parents_are S n c k.stored in
      let back : list_all (λ p. not (is_among p (n ∷ ns))) c.parents ≡ true = ap (list_all (λ p. not (is_among p (n ∷ ns)))) (sym are) ∙ first_so _ _ behind in
      let known : Each (λ p. IsThere S base whole p × (same_bytes p (replicate 20 0) ≡ false)) c.parents =
      subst (λ (ps : List Bytes). Each (λ p. IsThere S base whole p × (same_bytes p (replicate 20 0) ≡ false)) ps) are parents.0 in
      let more : snapshots_at S (bs ++ n ∷ []) ≡ snapshots_at S bs ++ snapshot_of S c ∷ [] =
      filter_map-append (λ (n : Bytes). option_map (snapshot_of S) (commit_named S n)) bs (n ∷ []) ∙ ap (λ (t : List Snapshot). snapshots_at S bs ++ t) (one_commit S n c k.stored) in
      let longer : list_all (has CommitKind S) (bs ++ n ∷ []) ≡ true = all_front (has CommitKind S) bs (n ∷ []) made (and_both (first_so _ _ h) refl) in
      let rest = upon whole (bs ++ n ∷ []) ns longer (second_so _ _ h) (second_so _ _ behind) parents.1 (append_assoc bs (n ∷ []) ns ∙ all) in
      subst (AreNewUpon (tree_in S) base (snapshots_at S bs)) (sym (first_is S n ns c k.stored)) (
        (unfolding_law S c.tree store k.stored.tree).tree,
        k.stored.spelled.author,
        k.stored.spelled.committer,
        are_parents whole bs n ns made all c.parents k.parents k.stored.spelled.parents back known,
        subst (λ (cs : List Snapshot). AreNewUpon (tree_in S) base cs (snapshots_at S ns)) more rest,
      )

  names_are : (ns : List Bytes) → list_all (has CommitKind S) ns ≡ true → map snapshot_name (snapshots_at S ns) ≡ ns
  names_are [] h = refl
  names_are (n ∷ ns) h =
      let k = held S n store (first_so _ _ h) in
      ap (map snapshot_name) (first_is S n ns k.commit k.stored) ∙ (λ i. k.stored.named i ∷ names_are ns (second_so _ _ h) i)

pub stored_new : StoredNewLaw
stored_new S base ns store h behind parents = record {
  upon = upon S base store ns [] ns refl h.held behind parents refl;
  names = names_are S base store ns h.held;
}
