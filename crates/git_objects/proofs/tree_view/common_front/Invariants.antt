use Rattle.std.proofs.Common.{◌≡◌, ◌≤◌, length, take, drop}
use Rattle.git_objects.proofs.tree_view.common_front.Given as goal

abbrev pub invariant-groups : goal.invariant-groups
invariant-groups l = (l.front ≤ length l.a) × (l.front ≤ length l.b) × (l.a_rest ≡ drop l.front l.a) × (l.b_rest ≡ drop l.front l.b) × (take l.front l.a ≡ take l.front l.b)

abbrev pub decreases-groups : goal.decreases-groups
decreases-groups l = length l.a_rest
