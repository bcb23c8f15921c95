use Rattle.std.proofs.Common.{◌≡◌, drop, take, []}
use Rattle.decision_lists.specs.Operations.{heads}
use Rattle.decision_lists.specs.Cells.{any_right, cells}
use Rattle.decision_lists.proofs.clashing.any_right.Given as goal

abbrev pub invariant-loop-i : goal.invariant-loop-i
invariant-loop-i l =
    any_right (l.entry.0, l.target, heads l.holes []) (cells (heads (take l.i l.others) []) (drop l.i l.others))
    ≡ any_right (l.entry.0, l.target, heads l.holes []) (cells [] l.others)
