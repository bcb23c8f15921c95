use Rattle.std.proofs.Common.{◌≡◌, ◌++◌, length}
use Rattle.path_trees.specs.Merged.{merged, shared}
use Rattle.path_trees.proofs.join.add_shared.Given as goal

-- what was added, and what is left
abbrev pub invariant-pairs : goal.invariant-pairs
invariant-pairs l = l.directories.items ++ shared (merged l.left l.right) ≡ l.initial.directories.items ++ shared (merged l.initial.left l.initial.right)

abbrev pub decreases-pairs : goal.decreases-pairs
decreases-pairs l = length (merged l.left l.right)
