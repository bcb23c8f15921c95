-- Commits of a store, in the order in which they are exported.
use Rattle.std.specs.Prelude.{◌≡◌, ◌&&◌, Bool, true, not, List, [], ◌∷◌, filter_map, map}
use Rattle.std.specs.List.{list_all}
use Rattle.std.specs.Option.{option_map, option_map_or}
use Rattle.git_objects.specs.Paths.{Bytes}
use Rattle.git_objects.specs.Snapshots.{Snapshot, snapshot_name}
use Rattle.git_objects.specs.declared.kind.Kind.TheVariants.{Commit}
use Rattle.object_store.specs.Objects.{Object, IsStore, has}
use Rattle.object_store.specs.StoredSnapshots.{commit_named, snapshot_of}
use Rattle.fast_export.specs.ExportTexts.{is_among}
use Rattle.fast_export.specs.Laws.{IsHistory}

-- the commits of these names, with the trees that they stand for
abbrev pub snapshots_at : List Object → List Bytes → List Snapshot
snapshots_at S ns = filter_map (λ n. option_map (snapshot_of S) (commit_named S n)) ns

abbrev pub are_distinct : List Bytes → Bool
are_distinct [] = true
are_distinct (n ∷ ns) = not (is_among n ns) && are_distinct ns

-- the names of a commit's parents
abbrev pub parents_in : List Object → Bytes → List Bytes
parents_in S n = option_map_or (λ c. c.parents) (commit_named S n) []

-- whether the parents of each stand before it, the first behind these
abbrev pub are_ordered : List Object → List Bytes → List Bytes → Bool
are_ordered S before [] = true
are_ordered S before (n ∷ ns) = list_all (λ p. is_among p before) (parents_in S n) && are_ordered S (n ∷ before) ns

-- distinct commits of a store, each behind its parents
pub record IsHistoryIn (S : List Object) (ns : List Bytes) : Type 0 where
  pub held : list_all (has Commit S) ns ≡ true
  pub distinct : are_distinct ns ≡ true
  pub ordered : are_ordered S [] ns ≡ true

-- the commits of these names are a history that can be read again, and have these names
pub record IsHistoryOf (S : List Object) (ns : List Bytes) : Type 0 where
  pub history : IsHistory [] (snapshots_at S ns)
  pub names : map snapshot_name (snapshots_at S ns) ≡ ns

abbrev pub StoredHistoryLaw : Type 0
StoredHistoryLaw = (S : List Object) (ns : List Bytes) → IsStore S → IsHistoryIn S ns → IsHistoryOf S ns
