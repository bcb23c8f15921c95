use Rattle.object_store.specs.Unfolding.{flat}
use Rattle.stage_tree.specs.Stages.{Shows}
use Rattle.filter_apply.proofs.Handing.{left_by}
use Rattle.filter_apply.proofs.holes.without_holes.Given as goal

abbrev pub invariant-loop-i : goal.invariant-loop-i
invariant-loop-i g l = Shows l.store l.stage (left_by l.entries l.route l.i (flat l.store l.fn.root.0))
