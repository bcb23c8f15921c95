use Rattle.std.proofs.Common.{◌≡◌, drop}
use Rattle.decision_lists.specs.Index.{mixed}
use Rattle.decision_lists.proofs.index.mixed.Given as goal

abbrev pub invariant-loop-x : goal.invariant-loop-x
invariant-loop-x l = mixed l.code (drop l.x-index l.component) ≡ mixed l.code-2 l.component
