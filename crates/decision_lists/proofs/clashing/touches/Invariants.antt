use Rattle.std.proofs.Common.{◌≡◌, drop, []}
use Rattle.decision_lists.specs.Operations.{heads}
use Rattle.decision_lists.specs.Cells.{touches}
use Rattle.decision_lists.proofs.clashing.touches.Given as goal

abbrev pub invariant-loop-c : goal.invariant-loop-c
invariant-loop-c l = touches l.front.items (heads l.holes []) (drop l.c-index l.rest) ≡ touches l.base (heads l.holes []) l.rest
