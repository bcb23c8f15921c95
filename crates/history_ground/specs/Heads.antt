-- What is shown of a commit, from scratch.
use Rattle.std.specs.Prelude.{◌≡◌, ◌⊎◌, List, [], ◌∷◌, Contains, IfSome}
use Rattle.std.specs.Option.{option_map}
use Rattle.git_objects.specs.Parts.{name_bytes}
use Rattle.git_objects.specs.Paths.{Bytes}
use Rattle.git_objects.specs.Snapshots.{Snapshot, tree_at}
use Rattle.object_store.specs.Objects.{Object}
use Rattle.object_store.specs.StoredSnapshots.{IsTreeOf, snapshot_object}
use Rattle.object_store.specs.Unfolding.{StandsFor}
use Rattle.filter_text.specs.Filters.{Filter}
use Rattle.workspace.specs.Workspaces.{shown}
use Rattle.projection_laws.specs.Projections.{own_commits, projection}
use Rattle.projection_ground.specs.Grounds.{commits_of}
use Rattle.history_ground.specs.Histories.{IsOfHistory}
use Rattle.projection_ground.specs.declared.ground.Ground.{Ground}
use Rattle.history_ground.specs.declared.heads.Seen.{Seen}

-- a commit of its own that the head or an ancestor becomes, also where another one of them has its name
abbrev pub IsOwn : Filter → Ground → Bytes → Object → Type 0
IsOwn f g h o = (c : Snapshot) × Contains (own_commits g.rule (shown f) (commits_of g) (h ∷ [])) c × (snapshot_object c ≡ o)

-- what projecting it makes, from scratch
abbrev pub IsSeenObject : Filter → Ground → Bytes → Object → Type 0
IsSeenObject f g h o = IsOfHistory f g h o ⊎ IsOwn f g h o

-- The projection of the head, from scratch, and the tree that is shown of it; both are in the store.
pub record IsSeen (f : Filter) (g : Ground) (h : Bytes) (S : List Object) (s : Seen) : Type 0 where
  pub projected : option_map name_bytes s.from ≡ option_map (λ p. p.commit) (projection g.rule (shown f) (commits_of g) h)
  pub stands : StandsFor S s.tree.0 (shown f (tree_at (commits_of g) h))
  pub there : IfSome s.from (λ n. IsTreeOf S n.0 s.tree.0)
