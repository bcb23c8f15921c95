use Rattle.std.proofs.Common.{◌≡◌, drop}
use Rattle.path_trees.specs.Searches.{precedes}
use Rattle.path_trees.proofs.finder.precedes.Given as goal

abbrev pub invariant-loop-i : goal.invariant-loop-i
invariant-loop-i l = precedes (drop l.i l.a) (drop l.i l.b) ≡ precedes l.a l.b
