-- Commits that have rows, by which a batch's refs are tested.
use Rattle.std.specs.FinMap.{find as find_entry}
use Rattle.std.specs.List.{list_all}
use Rattle.std.specs.Prelude.{◌≡◌, ⊤, true, List, [], ◌∷◌, ◌++◌, reverse, IsSome, Some}
use Rattle.git_objects.specs.Paths.{Bytes}
use Rattle.git_objects.specs.Refs.{Refs, bytes_cmp}
use Rattle.git_objects.specs.Snapshots.{Snapshot, snapshot_name}
use Rattle.git_objects.specs.declared.name.Name.{Name}
use Rattle.commit_graph.specs.Graphs.{Row, place_of}
use Rattle.object_store.specs.Objects.{Object, find_named}
use Rattle.object_store.specs.StoredSnapshots.{snapshot_object}
use Rattle.projection_laws.specs.StoredGraphs.{IsGraphIn, snapshot_named}
use Rattle.ref_store.specs.Refs.{head_of}
use Rattle.state_items.specs.Imported.{AreWhole, is_among}
use Rattle.repo_ground.specs.Changes.{AreNamedIn, settings_of}
use Rattle.repo_ground.specs.declared.commit.Batch.{Batch}

-- ---- commits that have rows

-- the store has the commit, and a row has its name
pub record IsEntered (S : List Object) (rows : List Row) (c : Snapshot) : Type 0 where
  pub stored : snapshot_named S (snapshot_name c) ≡ Some c
  pub placed : IsSome (place_of (snapshot_name c) rows)

-- commits from the newest to the oldest, the parents of each among the older ones
abbrev pub AreEntered : List Object → List Row → List Snapshot → Type 0
AreEntered S rows [] = ⊤
AreEntered S rows (c ∷ older) = IsEntered S rows c × (list_all (is_among older) c.parents ≡ true) × AreEntered S rows older

-- the rows are a graph of commits of the store, and have these
pub record HasCommits (S : List Object) (rows : List Row) (cs : List Snapshot) : Type 0 where
  pub graph : IsGraphIn S rows
  pub each : AreEntered S rows cs

-- ---- commits that may get rows

-- the name of a commit of the store whose parents are among those that have rows
pub record IsNext (S : List Object) (rows : List Row) (known : List Snapshot) (n : Name) (c : Snapshot) : Type 0 where
  pub has : HasCommits S rows known
  pub named : snapshot_named S n.0 ≡ Some c
  pub found : find_named S n.0 ≡ Some (snapshot_object c)
  pub parents : list_all (is_among known) c.parents ≡ true

-- the names of commits of the store, each behind its parents
pub record MayEnter (S : List Object) (rows : List Row) (known : List Snapshot) (names : List Name) (cs : List Snapshot) : Type 0 where
  pub has : HasCommits S rows known
  pub named : AreNamedIn S names cs
  pub whole : AreWhole known cs

-- ---- refs that may be tested

-- refs in order of arrival have the commits that they have in byte order
abbrev pub IsSorting : Refs → Refs → Type 0
IsSorting refs sorted = (r : Bytes) → head_of refs r ≡ find_entry bytes_cmp r sorted

-- and these commits have rows
pub record AreHeads (rows : List Row) (refs sorted : Refs) : Type 0 where
  pub found : IsSorting refs sorted
  pub placed : (r n : Bytes) → head_of refs r ≡ Some n → IsSome (place_of n rows)

-- old and new commits of these settings have rows, the new ones as some of these commits
pub record MayTest (S : List Object) (rows : List Row) (cs : List Snapshot) (refs sorted es : Refs) : Type 0 where
  pub has : HasCommits S rows cs
  pub old : AreHeads rows refs sorted
  pub new : list_all (λ e. is_among cs e.1) es ≡ true

-- the same of a batch's settings, as soon as its commits have rows
pub record MayMove (S : List Object) (rows : List Row) (known : List Snapshot) (refs sorted : Refs) (b : Batch) (cs : List Snapshot) : Type 0 where
  pub enter : MayEnter S rows known b.commits.items cs
  pub old : AreHeads rows refs sorted
  pub new : list_all (λ e. is_among (reverse cs ++ known) e.1) (settings_of b) ≡ true
