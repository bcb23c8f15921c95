-- Histories that are put into a store.
use Rattle.std.specs.Prelude.{◌≡◌, Bool, true, not, ◌&&◌, List, [], ◌∷◌, map, reverse}
use Rattle.std.specs.List.{filter_map, list_all, list_any}
use Rattle.std.specs.Option.{option_map_or}
use Rattle.git_objects.specs.Paths.{Bytes, same_bytes}
use Rattle.git_objects.specs.Snapshots.{Graph, snapshot_name, is_graph}
use Rattle.git_objects.specs.declared.kind.Kind.TheVariants.{Commit}
use Rattle.object_store.specs.Objects.{Object, has}
use Rattle.object_store.specs.StoredSnapshots.{commit_named}
use Rattle.projection_laws.specs.StoredGraphs.{snapshot_named}

-- whether a name is among these
abbrev pub is_among : Bytes → List Bytes → Bool
is_among n ns = list_any (same_bytes n) ns

-- the commits of a graph are in a store, under these names, the oldest first
pub record AreMade (S : List Object) (g : Graph) (ns : List Bytes) : Type 0 where
  pub names : ns ≡ map snapshot_name (reverse g)
  pub held : list_all (has Commit S) ns ≡ true
  pub snapshots : filter_map (snapshot_named S) ns ≡ reverse g

-- ---- what names of a history keep to

-- whether each is there once
abbrev pub is_distinct : List Bytes → Bool
is_distinct [] = true
is_distinct (n ∷ ns) = not (is_among n ns) && is_distinct ns

-- the names of the parents of the commit of that name
abbrev pub parents_named : List Object → Bytes → List Bytes
parents_named S n = option_map_or (λ c. c.parents) (commit_named S n) []

-- whether the parents of each stand before it, the first behind these
abbrev pub is_ordered : List Object → List Bytes → List Bytes → Bool
is_ordered S before [] = true
is_ordered S before (n ∷ ns) = list_all (λ p. is_among p before) (parents_named S n) && is_ordered S (n ∷ before) ns

-- the names are of distinct commits of the store, each behind its parents
pub record IsInOrder (S : List Object) (ns : List Bytes) : Type 0 where
  pub held : list_all (has Commit S) ns ≡ true
  pub distinct : is_distinct ns ≡ true
  pub ordered : is_ordered S [] ns ≡ true

-- a graph that is in a store is in order there
abbrev pub OrderLaw : Type 0
OrderLaw = (S : List Object) (g : Graph) (ns : List Bytes) → is_graph g ≡ true → AreMade S g ns → IsInOrder S ns
