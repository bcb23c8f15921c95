use Rattle.std.proofs.Common.{length}
use Rattle.tree_cases.proofs.leaves.add_leaves.Given as goal

abbrev pub decreases-loop-walk : goal.decreases-loop-walk
decreases-loop-walk l = length l.walk.left
