use Rattle.std.proofs.Common.{length, ◌≤◌, ◌≡◌, false}
use Rattle.git_objects.specs.declared.limits.TheConstants.{STREAM_BYTES}
use Rattle.stream_lex.specs.Lines.{line_at, HasNone}
use Rattle.stream_lex.specs.Cutting.{Advances}
use Rattle.stream_lex.specs.Passed.{IsPast}
use Rattle.stream_lex.specs.Views.{input}
use Rattle.stream_lex.proofs.lines.look.Given as goal

abbrev pub invariant-lines : goal.invariant-lines
invariant-lines l = record {
  within : l.i.at ≤ STREAM_BYTES;
  room : l.clear ≤ length l.i.rest.now;
  clear : HasNone l.i.rest.now l.clear;
  same : line_at l.ended (input l.i) ≡ line_at l.ended (input l.fn.i);
  steps : Advances (input l.fn.i) (input l.i);
  past : l.ended ≡ false → IsPast (input l.fn.i) (input l.i);
}

abbrev pub decreases-lines : goal.decreases-lines
decreases-lines l = length l.i.rest.now
