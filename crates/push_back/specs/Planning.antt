-- What a push brings over a ground.
use Rattle.std.specs.Prelude.{◌≡◌, ◌⊎◌, List, map, None, Result, IfErr, IfOk}
use Rattle.git_objects.specs.Paths.{Bytes}
use Rattle.git_objects.specs.Snapshots.{snapshot_name, tree_at}
use Rattle.object_store.specs.Objects.{Object}
use Rattle.filter_text.specs.Filters.{Filter}
use Rattle.workspace.specs.Workspaces.{shown}
use Rattle.projection_ground.specs.Grounds.{Extends, commits_of}
use Rattle.history_ground.specs.Heads.{IsSeenObject}
use Rattle.projection_ground.specs.declared.ground.Ground.{Ground}
use Rattle.fast_import.specs.Made.{IsMadeBy}
use Rattle.fast_import.specs.Replays.{nothing_yet}
use Rattle.fast_import.specs.Standing.{AreBlobsIn}
use Rattle.push_back.specs.Faults.{IsPushFault}
use Rattle.push_back.specs.Originals.{AreNamedIn, IsMadeFor}
use Rattle.push_laws.specs.Pushes.{Pushing, pushing}
use Rattle.push_back.specs.declared.fault.PushFault.{PushFault}
use Rattle.push_back.specs.declared.brought.Plan.{Plan}

-- ---- a push

-- what a push makes: of its projection, of its stream, and of its originals
abbrev pub IsMadeByPush : Filter → Ground → Bytes → Pushing → Object → Type 0
IsMadeByPush f g h x o =
    IsSeenObject f g h o
    ⊎ IsMadeBy x.base nothing_yet x.stream.tried o
    ⊎ IsMadeFor f h (tree_at (commits_of g) h) (shown f (tree_at (commits_of g) h)) x.stream.state.commits o

-- A push isn't refused, and the names stand for its blobs, its commits and their originals; a store has blobs and originals.
pub record IsPlanOf (S : List Object) (p : Plan) (x : Pushing) : Type 0 where
  pub accepted : x.refusal ≡ None
  pub blobs : AreBlobsIn S p.blobs.items x.stream.state.blobs
  pub pushed : map (λ c. c.pushed.0) p.commits.items ≡ map snapshot_name x.stream.state.commits
  pub originals : AreNamedIn S (map (λ c. c.original) p.commits.items) x.originals

-- What became of a push to a ref, upon the commit of the name h: what it brings exactly where it isn't refused, or its refusal.
pub record IsPlanned (f : Filter) (refname h all : Bytes) (g g' : Ground) (result : Result Plan PushFault) : Type 0 where
  pub ok : IfOk result (λ p. IsPlanOf g'.store p (pushing g.rule f (commits_of g) h refname all))
  pub err : IfErr result
      (IsPushFault (pushing g.rule f (commits_of g) h refname all).refusal (IsMadeByPush f g h (pushing g.rule f (commits_of g) h refname all)) g'.store)
  pub same : Extends (IsMadeByPush f g h (pushing g.rule f (commits_of g) h refname all)) g g'
  pub map : g'.map ≡ g.map
