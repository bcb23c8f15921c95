use Rattle.std.proofs.Common.{◌≡◌, drop}
use Rattle.stage_tree.specs.Limits.{cost, room_left}
use Rattle.stage_tree.proofs.limits.room_left.Given as goal

abbrev pub invariant-loop-i : goal.invariant-loop-i
invariant-loop-i l = room_left l.left (cost l.measure (drop l.i l.components)) ≡ room_left l.limit (cost l.measure l.components)
