use Rattle.incremental_export.proofs.ChangesWritten.{AreChangesWritten}
use Rattle.incremental_export.proofs.export.write_commits.Given as goal

abbrev pub invariant-loop-name : goal.invariant-loop-name
invariant-loop-name g l =
    AreChangesWritten g.O.Sink.tells g.O.Sink.written g.O.Sink.faults g.O.Sink.refusals l.fn.sink l.sink l.fn.kept.items l.kept.items l.store l.refname l.commits l.name-index l.marks
