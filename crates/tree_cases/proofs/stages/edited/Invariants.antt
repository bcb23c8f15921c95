use Rattle.git_objects.specs.Trees.{Flat}
use Rattle.stage_tree.specs.Stages.{Shows}
use Rattle.tree_cases.proofs.stages.edited.Given as goal

abbrev pub invariant-loop-word : goal.invariant-loop-word
invariant-loop-word l = (t : Flat) × Shows l.store l.stage t
