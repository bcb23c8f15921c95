-- What a push with merges brings over a ground.
use Rattle.std.specs.Prelude.{◌≡◌, ◌⊎◌, List, Option, Result, IfErr, IfOk}
use Rattle.git_objects.specs.Paths.{Bytes}
use Rattle.object_store.specs.Objects.{Object}
use Rattle.filter_text.specs.Filters.{Filter}
use Rattle.projection_ground.specs.Grounds.{Extends, commits_of}
use Rattle.projection_ground.specs.declared.ground.Ground.{Ground}
use Rattle.history_ground.specs.Heads.{IsSeenObject}
use Rattle.history_ground.specs.Origins.{IsProjectionObject}
use Rattle.fast_import.specs.Made.{IsMadeBy}
use Rattle.fast_import.specs.Replays.{nothing_yet}
use Rattle.push_laws.specs.Pushes.{PushRefusal, Pushing}
use Rattle.push_back.specs.Faults.{IsPushFault}
use Rattle.push_back.specs.Planning.{IsPlanOf}
use Rattle.push_back.specs.declared.brought.Plan.{Plan}
use Rattle.push_back.specs.declared.fault.PushFault.{PushFault}
use Rattle.merge_laws.specs.MergeVerdicts.{begun}
use Rattle.merge_laws.specs.Merges.{merging}
use Rattle.merge_push.specs.Faults.{of_push}
use Rattle.merge_push.specs.Originals.{IsMadeFor}
use Rattle.merge_push.specs.declared.fault.MergeFault.{MergeFault}

-- what a push with merges makes: of its projection, of all projections, of its stream, and of its originals
abbrev pub IsMadeByMerges : Filter → Ground → Bytes → Pushing → Object → Type 0
IsMadeByMerges f g h x o =
    IsSeenObject f g h o
    ⊎ IsProjectionObject f g o
    ⊎ IsMadeBy x.base nothing_yet x.stream.tried o
    ⊎ IsMadeFor g.rule f (begun g.rule f (commits_of g) h) x.stream.state.commits o

-- it tells the push's refusal, or why no more is made
abbrev pub IsMergeFault : Option PushRefusal → (Object → Type 0) → List Object → MergeFault → Type 0
IsMergeFault refusal made S e = (w : PushFault) × (e ≡ of_push w) × IsPushFault refusal made S w

-- What became of a push with merges to a ref, upon the commit of the name h: what it brings exactly where it isn't refused, or its
-- refusal.
pub record IsMergePlanned (f : Filter) (refname h all : Bytes) (g g' : Ground) (result : Result Plan MergeFault) : Type 0 where
  pub ok : IfOk result (λ p. IsPlanOf g'.store p (merging g.rule f (commits_of g) h refname all))
  pub err : IfErr result
      (IsMergeFault (merging g.rule f (commits_of g) h refname all).refusal (IsMadeByMerges f g h (merging g.rule f (commits_of g) h refname all)) g'.store)
  pub same : Extends (IsMadeByMerges f g h (merging g.rule f (commits_of g) h refname all)) g g'
  pub map : g'.map ≡ g.map

-- the same with the faults of any push
pub record IsPlannedAs (f : Filter) (refname h all : Bytes) (g g' : Ground) (result : Result Plan PushFault) : Type 0 where
  pub ok : IfOk result (λ p. IsPlanOf g'.store p (merging g.rule f (commits_of g) h refname all))
  pub err : IfErr result
      (IsPushFault (merging g.rule f (commits_of g) h refname all).refusal (IsMadeByMerges f g h (merging g.rule f (commits_of g) h refname all)) g'.store)
  pub same : Extends (IsMadeByMerges f g h (merging g.rule f (commits_of g) h refname all)) g g'
  pub map : g'.map ≡ g.map
