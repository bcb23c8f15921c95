use Rattle.std.proofs.Common.{◌≡◌, drop, take, []}
use Rattle.decision_lists.specs.Operations.{heads}
use Rattle.decision_lists.specs.Cells.{any_clash, cells}
use Rattle.decision_lists.proofs.clashing.any_left.Given as goal

abbrev pub invariant-loop-i : goal.invariant-loop-i
invariant-loop-i l =
    any_clash (cells (heads (take l.i l.list) []) (drop l.i l.list)) (cells [] l.others) ≡ any_clash (cells [] l.list) (cells [] l.others)
