use Rattle.std.proofs.Common.{[], take}
use Rattle.object_store.specs.Growth.{IsGrownBy}
use Rattle.object_store.specs.Unfolding.{flat}
use Rattle.decision_lists.specs.Cells.{cells}
use Rattle.filter_unapply.specs.Hands.{IsMadeOf}
use Rattle.filter_unapply.specs.Parts.{AreParts}
use Rattle.filter_unapply.specs.Routed.{IsTakenOrIn, taken}
use Rattle.filter_unapply.proofs.parts.parts_of.Given as goal

-- the parts of the routes so far
abbrev pub invariant-loop-route : goal.invariant-loop-route
invariant-loop-route l = record {
  parts : AreParts l.store l.parts.items (taken (cells [] (take l.route l.entries)) (flat l.fn.store l.fn.pushed.0));
  grown : IsGrownBy (IsMadeOf (IsTakenOrIn (cells [] l.entries) (flat l.fn.store l.fn.pushed.0))) l.fn.store l.store;
}
