use Rattle.std.proofs.Common.{◌≡◌, ◌≤◌, length, take}
use Rattle.git_objects.specs.SharedFronts.{SharesFront}
use Rattle.git_objects.proofs.tree_view.after_lines.Given as goal

abbrev pub invariant-lines : goal.invariant-lines
invariant-lines l = (l.left ≤ length l.rest) × (l.left ≤ length l.other_rest) × (take l.left l.rest ≡ take l.left l.other_rest) × SharesFront l.a l.b l.rest l.other_rest

abbrev pub decreases-lines : goal.decreases-lines
decreases-lines l = l.left
