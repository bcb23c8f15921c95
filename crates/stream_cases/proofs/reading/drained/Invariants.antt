use Rattle.std.proofs.Common.{◌≡◌}
use Rattle.stream_cases.proofs.reading.drained.Given as goal

abbrev pub invariant-commands : goal.invariant-commands
invariant-commands l = l.reader.ended ≡ l.fn.reader.ended
