use Rattle.std.proofs.Common.{◌≡◌, false}
use Rattle.stream_cases.proofs.reading.has_ended.Given as goal

abbrev pub invariant-pieces : goal.invariant-pieces
invariant-pieces l = l.reader.ended ≡ false
