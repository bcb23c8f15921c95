use Rattle.std.proofs.Common.{◌≡◌, take}
use Rattle.stage_tree.proofs.last.common.Given as goal

abbrev pub invariant-loop-level : goal.invariant-loop-level
invariant-loop-level l = take l.level l.a ≡ take l.level l.b
