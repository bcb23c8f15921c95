use Rattle.std.proofs.Common.{◌≡◌, ◌≤◌, []}
use Rattle.git_objects.specs.declared.limits.TheConstants.{STREAM_BYTES}
use Rattle.stream_lex.specs.Views.{input}
use Rattle.stream_reader.specs.Heads.{merges}
use Rattle.stream_reader.proofs.heads.merges.Given as goal

abbrev pub invariant-merges : goal.invariant-merges
invariant-merges l = record {
  same : merges l.most [] l.ended (input l.fn.i) ≡ merges l.left l.refs.items l.ended (input l.i);
  within : l.i.at ≤ STREAM_BYTES;
}

abbrev pub decreases-merges : goal.decreases-merges
decreases-merges l = l.left
