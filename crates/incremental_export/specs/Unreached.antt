-- Commits that aren't reached from others.
use Rattle.std.specs.Prelude.{◌≡◌, ◌↔◌, ◌⊎◌, if◌then◌else◌, true, List, [], ◌∷◌, ◌++◌, map, reverse, Contains}
use Rattle.git_objects.specs.Paths.{Bytes}
use Rattle.git_objects.specs.Snapshots.{Graph, Snapshot, is_graph, is_wanted, reached, snapshot_name, wanted_below}
use Rattle.object_store.specs.Objects.{Object}
use Rattle.fast_export.specs.ExportTexts.{is_among}
use Rattle.fast_export.specs.Histories.{parents_in, snapshots_at}

-- The commits of a graph that are none of these and no ancestors of them, the newest first: one pass from the newest commit to the oldest.
abbrev pub unreached : Graph → List Bytes → Graph
unreached [] wanted = []
unreached (c ∷ older) wanted = (if is_wanted wanted c then [] else c ∷ []) ++ unreached older (wanted_below wanted c)

-- Each commit of a graph is reached from these, or isn't, and never both.
abbrev pub PartingLaw : Type 0
PartingLaw =
    (g : Graph) (haves : List Bytes) → is_graph g ≡ true → (c : Snapshot)
    → (Contains g c ↔ (Contains (unreached g haves) c ⊎ Contains (reached g haves) c)) × (Contains (unreached g haves) c → Contains (reached g haves) c → ⊥)

-- ---- of a store

-- the same over names of commits of a store, the newest first
abbrev pub left_of : List Object → List Bytes → List Bytes → List Bytes
left_of S wanted [] = []
left_of S wanted (n ∷ older) = if is_among n wanted then left_of S (parents_in S n ++ wanted) older else n ∷ left_of S wanted older

-- the same names are among both
abbrev pub AreSame : List Bytes → List Bytes → Type 0
AreSame a b = (n : Bytes) → is_among n a ≡ is_among n b

-- of commits with parents first
abbrev pub unreached_in : List Object → List Bytes → List Bytes → List Bytes
unreached_in S haves ns = reverse (left_of S haves (reverse ns))

-- Names of a graph's commits, of which the store has each, become the names of those that aren't reached.
abbrev pub StoredUnreachedLaw : Type 0
StoredUnreachedLaw =
    (S : List Object) (g : Graph) (haves : List Bytes) → snapshots_at S (map snapshot_name (reverse g)) ≡ reverse g
    → (unreached_in S haves (map snapshot_name (reverse g)) ≡ map snapshot_name (reverse (unreached g haves)))
    × (snapshots_at S (unreached_in S haves (map snapshot_name (reverse g))) ≡ reverse (unreached g haves))
