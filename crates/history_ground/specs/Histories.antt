-- What a history puts into a store.
use Rattle.std.specs.Prelude.{◌≡◌, ◌⊎◌, Contains}
use Rattle.git_objects.specs.Paths.{Bytes}
use Rattle.git_objects.specs.Snapshots.{Snapshot}
use Rattle.object_store.specs.Objects.{Object}
use Rattle.object_store.specs.StoredSnapshots.{snapshot_object}
use Rattle.filter_text.specs.Filters.{Filter}
use Rattle.workspace.specs.Workspaces.{shown}
use Rattle.projection_laws.specs.Projections.{history_graph}
use Rattle.projection_ground.specs.Grounds.{IsShownOf, commits_of}
use Rattle.projection_ground.specs.declared.ground.Ground.{Ground}

-- a tree that the filter shows, or a part of it, or a commit of the history
abbrev pub IsOfHistory : Filter → Ground → Bytes → Object → Type 0
IsOfHistory f g h o = IsShownOf f (commits_of g) o
    ⊎ ((c : Snapshot) × Contains (history_graph g.rule (shown f) (commits_of g) h) c × (snapshot_object c ≡ o))
