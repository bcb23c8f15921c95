use Rattle.std.proofs.Common.{◌≡◌, drop}
use Rattle.decision_lists.specs.Entries.{cone_of}
use Rattle.decision_lists.specs.Operations.{alive_in}
use Rattle.decision_lists.proofs.entry.is_alive.Given as goal

abbrev pub invariant-loop-e : goal.invariant-loop-e
invariant-loop-e l = alive_in (drop l.e-index l.entries) (cone_of l.point l.base) ≡ alive_in l.entries (cone_of l.point l.base)
