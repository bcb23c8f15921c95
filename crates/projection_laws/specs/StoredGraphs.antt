-- A graph's rows as commits of a store.
use Rattle.std.specs.Prelude.{◌≡◌, ℕ, true, List, [], map, reverse, slice_get, Option, Some}
use Rattle.std.specs.List.{filter_map}
use Rattle.std.specs.Option.{option_map, option_map_or}
use Rattle.git_objects.specs.Paths.{Bytes}
use Rattle.git_objects.specs.Commits.{Commit}
use Rattle.git_objects.specs.Snapshots.{Snapshot, Graph}
use Rattle.git_objects.specs.declared.kind.Kind.TheVariants.{Tree, Commit as CommitKind}
use Rattle.object_store.specs.Objects.{Object, IsStore, has}
use Rattle.object_store.specs.StoredSnapshots.{commit_named, snapshot_of}
use Rattle.commit_graph.specs.Graphs.{Row}
use Rattle.commit_graph.specs.Graphs as graphs

-- the name of the commit at a place
abbrev pub name_at : List Row → ℕ → Bytes
name_at rows p = option_map_or (λ r. r.name) (slice_get rows p) []

-- The row's commit is in the store under its name, with the row's tree, which is in the store too; and the commits at the
-- places of the row's parents are the commit's parents, in order.
pub record IsRowIn (S : List Object) (rows : List Row) (r : Row) : Type 0 where
  pub commit : Commit
  pub held : has CommitKind S r.name ≡ true
  pub named : commit_named S r.name ≡ Some commit
  pub tree : commit.tree ≡ r.tree
  pub parents : commit.parents ≡ map (name_at rows) r.parents
  pub tree_held : has Tree S r.tree ≡ true

-- the rows are a graph of commits of the store
pub record IsGraphIn (S : List Object) (rows : List Row) : Type 0 where
  pub store : IsStore S
  pub graph : graphs.IsGraph rows
  pub each : (i : ℕ) (r : Row) → slice_get rows i ≡ Some r → IsRowIn S rows r

-- the commit of that name with its flat tree
abbrev pub snapshot_named : List Object → Bytes → Option Snapshot
snapshot_named S n = option_map (snapshot_of S) (commit_named S n)

-- the rows' commits with their flat trees, the newest first
unfoldable pub graph_of : List Object → List Row → Graph
graph_of S rows = filter_map (λ r. snapshot_named S r.name) (reverse rows)
