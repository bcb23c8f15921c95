use Rattle.std.proofs.Common.{◌+◌, ◌≤◌, ◌↔◌}
use Rattle.git_objects.specs.declared.limits.TheConstants.{STREAM_BYTES}
use Rattle.fast_import.specs.Bases.{base_in}
use Rattle.stream_reader.specs.Readers.{came}
use Rattle.fast_import.proofs.Running.{IsSoFar}
use Rattle.fast_import.proofs.Stopping.{ahead}
use Rattle.fast_import.proofs.whole.run_on.Given as goal

abbrev pub invariant-stream : goal.invariant-stream
invariant-stream g l = record {
  so_far : IsSoFar l.fn.reader.progress (base_in l.fn.store (g.B.Base.commits l.base) (g.B.Base.refs l.base) (g.B.Base.blobs l.base)) l.fn.store l.store (g.S.Source.left l.fn.input) (g.S.Source.left l.input) l.reader l.replay;
  told : g.S.Source.tells l.input ↔ g.S.Source.tells l.fn.input;
  later : g.S.Source.faults l.fn.input ≤ g.S.Source.faults l.input;
  within : came l.reader ≤ STREAM_BYTES + 65536;
}

abbrev pub decreases-stream : goal.decreases-stream
decreases-stream g l = ahead l.reader
