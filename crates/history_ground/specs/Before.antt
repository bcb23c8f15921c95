-- Projections of commits that are a head or an ancestor of it.
use Rattle.std.specs.Prelude.{◌≡◌, ℕ, Bool, true, if◌then◌else◌, List, Option, None}
use Rattle.std.specs.List.{list_any}
use Rattle.std.specs.Option.{option_map}
use Rattle.git_objects.specs.Paths.{Bytes, same_bytes}
use Rattle.git_objects.specs.Snapshots.{ancestors, has}
use Rattle.object_store.specs.Objects.{Object}
use Rattle.commit_graph.specs.Graphs.{Row}
use Rattle.filter_text.specs.Filters.{Filter}
use Rattle.workspace.specs.Workspaces.{shown}
use Rattle.projection_laws.specs.Projections.{projection}
use Rattle.projection_laws.specs.StoredGraphs.{name_at}
use Rattle.projection_ground.specs.Grounds.{Extends, commits_of}
use Rattle.projection_ground.specs.TrueMaps.{IsTrueMap}
use Rattle.projection_ground.specs.declared.ground.Ground.{Ground}
use Rattle.history_ground.specs.Heads.{IsSeenObject}

-- the commit that a commit is projected to, from scratch, where it is the head or an ancestor of it
abbrev pub shown_before : Filter → Ground → Bytes → Bytes → Option Bytes
shown_before f g h n =
    if has (ancestors (commits_of g) h) n then option_map (λ s. s.commit) (projection g.rule (shown f) (commits_of g) n) else None

-- ---- by places

-- whether the commit of that name stands at one of these places
abbrev pub stands_at : List Row → List ℕ → Bytes → Bool
stands_at rows ps n = list_any (λ p. same_bytes n (name_at rows p)) ps

-- the commit that a commit is projected to, from scratch, where it stands at one of these places
abbrev pub shown_at : Filter → Ground → List ℕ → Bytes → Option Bytes
shown_at f g ps n =
    if stands_at g.graph ps n then option_map (λ s. s.commit) (projection g.rule (shown f) (commits_of g) n) else None

-- what projecting a commit makes that stands at one of these places
abbrev pub IsSeenAt : Filter → Ground → List ℕ → Object → Type 0
IsSeenAt f g ps o = (n : Bytes) × (stands_at g.graph ps n ≡ true) × IsSeenObject f g n o

-- What projecting such a commit leaves, where the map has projections from scratch.
pub record IsWalkAt (f : Filter) (ps : List ℕ) (g g' : Ground) : Type 0 where
  pub same : Extends (IsSeenAt f g ps) g g'
  pub map : IsTrueMap g'.store (commits_of g) g.rule f g'.map
