use Rattle.std.proofs.Common.{◌≡◌, length, None}
use Rattle.stream_reader.specs.Readers.{IsBefore, reading}
use Rattle.stream_reader.proofs.reader.Reader.read.Given as goal

abbrev pub invariant-turns : goal.invariant-turns
invariant-turns l = record {
  before : IsBefore l.fn.self (reading l.self-inside.progress l.self-inside.lexer);
  free : l.self-inside.waits ≡ None;
}

abbrev pub decreases-turns : goal.decreases-turns
decreases-turns l = length l.self-inside.lexer.input.rest
