use Rattle.std.proofs.Common.{◌++◌, ◌-◌, drop, take}
use Rattle.object_store.specs.Unfolding.{flat}
use Rattle.stage_tree.specs.Stages.{Shows}
use Rattle.filter_unapply.specs.Sifted.{sifted}
use Rattle.filter_unapply.proofs.sifting.with_run.Given as goal

-- the stage shows what the run's entries before this one and those behind the run make of the tree
abbrev pub invariant-loop-i : goal.invariant-loop-i
invariant-loop-i l = Shows l.store l.stage (sifted l.inside (take (l.i - l.fn.first) (drop l.fn.first l.list) ++ drop l.fn.end l.list) (flat l.store l.root.0))
