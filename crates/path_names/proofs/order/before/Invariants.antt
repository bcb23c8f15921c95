use Rattle.std.proofs.Common.{◌≡◌, ◌≤◌, length, ◌-◌, drop}
use Rattle.git_objects.specs.Paths.{path_cmp}
use Rattle.path_names.proofs.order.before.Given as goal

abbrev pub invariant-loop-i : goal.invariant-loop-i
invariant-loop-i l =
    (l.i ≤ length l.a) × (l.i ≤ length l.b) × (path_cmp (drop l.i l.a) (drop l.i l.b) ≡ path_cmp l.a l.b)

abbrev pub decreases-loop-i : goal.decreases-loop-i
decreases-loop-i l = length l.a - l.i
