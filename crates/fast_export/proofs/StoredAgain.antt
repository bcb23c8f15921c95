-- Commits of a store are a history.
use Rattle.std.proofs.Common.{◌≡◌, true, List, [], ◌∷◌, map, Option, refl, sym, ap, subst, ◌∙◌}
use Rattle.std.specs.List.{list_all, cons_option}
use Rattle.std.specs.Option.{option_map, option_map_or}
use Rattle.std.specs.Cmp.{first_so, second_so}
use Rattle.git_objects.specs.Paths.{Bytes}
use Rattle.git_objects.specs.Commits.{Commit}
use Rattle.git_objects.specs.Snapshots.{snapshot_name}
use Rattle.git_objects.specs.declared.kind.Kind.TheVariants.{Commit as CommitKind}
use Rattle.object_store.specs.Objects.{Object, IsStore, has}
use Rattle.object_store.specs.StoredSnapshots.{snapshot_of}
use Rattle.object_store.proofs.Parts.{find-has}
use Rattle.object_store.proofs.StoredCommits.{stored-commit}
use Rattle.object_store.proofs.Unfolding.{unfolding_law}
use Rattle.fast_export.specs.ExportTexts.{is_among}
use Rattle.fast_export.specs.Histories.{StoredHistoryLaw, are_ordered, snapshots_at}
use Rattle.fast_export.specs.Laws.{IsHistory}
use Rattle.fast_export.proofs.StoredHistories.{IsStoredCommit, told_commit}

held_commit : (S : List Object) (n : Bytes) → IsStore S → has CommitKind S n ≡ true → (c : Commit) × IsStoredCommit S n c
held_commit S n s h = let k = stored-commit S n s h in (k.commit, told_commit S n _ k.commit s h (sym (find-has S CommitKind n s h)) (sym k.read))

first_is : (S : List Object) (n : Bytes) (ns : List Bytes) (c : Commit) → IsStoredCommit S n c → snapshots_at S (n ∷ ns) ≡ snapshot_of S c ∷ snapshots_at S ns
first_is S n ns c k = ap (λ (o : Option Commit). cons_option (option_map (snapshot_of S) o) (snapshots_at S ns)) k.read

is_history : (S : List Object) (before ns : List Bytes) → IsStore S → list_all (has CommitKind S) ns ≡ true → are_ordered S before ns ≡ true → IsHistory before (snapshots_at S ns)
is_history S before [] s h o = tt
is_history S before (n ∷ ns) s h o =
    let k = held_commit S n s (first_so _ _ h) in
    let c = k.0 in
    let parents : list_all (λ p. is_among p before) c.parents ≡ true = sym (ap (λ (m : Option Commit). list_all (λ p. is_among p before) (option_map_or (λ (d : Commit). d.parents) m [])) k.1.read) ∙ first_so _ _ o in
    let rest : IsHistory (n ∷ before) (snapshots_at S ns) = is_history S (n ∷ before) ns s (second_so _ _ h) (second_so _ _ o) in
    subst (IsHistory before) (sym (first_is S n ns c k.1)) (
      (unfolding_law S c.tree s k.1.tree).tree,
      k.1.spelled.author,
      k.1.spelled.committer,
      parents,
      subst (λ (m : Bytes). IsHistory (m ∷ before) (snapshots_at S ns)) (sym k.1.named) rest,
    )

has_names : (S : List Object) (ns : List Bytes) → IsStore S → list_all (has CommitKind S) ns ≡ true → map snapshot_name (snapshots_at S ns) ≡ ns
has_names S [] s h = refl
has_names S (n ∷ ns) s h =
    let k = held_commit S n s (first_so _ _ h) in
    ap (map snapshot_name) (first_is S n ns k.0 k.1) ∙ (λ i. k.1.named i ∷ has_names S ns s (second_so _ _ h) i)

pub stored_history_law : StoredHistoryLaw
stored_history_law S ns s h = record { history = is_history S [] ns s h.held h.ordered; names = has_names S ns s h.held }
