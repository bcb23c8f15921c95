use Rattle.std.proofs.Common.{[], take}
use Rattle.object_store.specs.Growth.{IsGrownBy}
use Rattle.object_store.specs.Unfolding.{flat}
use Rattle.stage_tree.specs.Stages.{Shows}
use Rattle.decision_lists.specs.Cells.{cells}
use Rattle.filter_unapply.specs.Hands.{IsIn, IsMadeOf}
use Rattle.filter_unapply.specs.Routed.{unplaced}
use Rattle.filter_unapply.proofs.routing.unplaced.Given as goal

-- the stage shows what comes from none of the routes so far
abbrev pub invariant-loop-route : goal.invariant-loop-route
invariant-loop-route l = record {
  shows : Shows l.store l.stage (unplaced (cells [] (take l.route l.entries)) (flat l.fn.store l.fn.pushed.0));
  grown : IsGrownBy (IsMadeOf (IsIn (flat l.fn.store l.fn.pushed.0))) l.fn.store l.store;
}
