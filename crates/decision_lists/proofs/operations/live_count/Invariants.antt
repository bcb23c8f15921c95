use Rattle.std.proofs.Common.{◌≤◌}
use Rattle.decision_lists.proofs.operations.live_count.Given as goal

abbrev pub invariant-loop-e : goal.invariant-loop-e
invariant-loop-e l = l.count ≤ l.e-index
