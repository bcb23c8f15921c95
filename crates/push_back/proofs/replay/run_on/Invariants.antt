use Rattle.std.proofs.Common.{◌+◌, ◌≤◌, ◌↔◌}
use Rattle.git_objects.specs.declared.limits.TheConstants.{STREAM_BYTES}
use Rattle.stream_reader.specs.Readers.{came}
use Rattle.fast_import.proofs.Stopping.{ahead}
use Rattle.push_back.proofs.Running.{IsRunSoFar}
use Rattle.push_back.proofs.replay.run_on.Given as goal

abbrev pub invariant-stream : goal.invariant-stream
invariant-stream g l = record {
  so_far : IsRunSoFar (g.P.Pushed.upon l.fn.store l.base) (g.P.Pushed.one l.fn.store l.base) l.fn.store l.store (g.S.Source.left l.fn.input) (g.S.Source.left l.input) l.reader l.replay;
  told : g.S.Source.tells l.input ↔ g.S.Source.tells l.fn.input;
  later : g.S.Source.faults l.fn.input ≤ g.S.Source.faults l.input;
  within : came l.reader ≤ STREAM_BYTES + 65536;
}

abbrev pub decreases-stream : goal.decreases-stream
decreases-stream g l = ahead l.reader
