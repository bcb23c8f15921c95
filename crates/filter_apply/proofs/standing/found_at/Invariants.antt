use Rattle.std.proofs.Common.{◌≤◌, ◌+◌}
use Rattle.object_store.specs.Unfolding.{flat}
use Rattle.filter_apply.proofs.Places.{IsWayTo}
use Rattle.filter_apply.proofs.standing.found_at.Given as goal

abbrev pub invariant-loop-component : goal.invariant-loop-component
invariant-loop-component g l = record {
  way : IsWayTo l.store (flat l.store l.fn.root.0) l.place l.component-index l.found;
  paid : l.steps ≤ l.fn.steps + l.component-index;
}
