use Rattle.fast_export.proofs.WrittenCommits.{AreCommitsWritten}
use Rattle.fast_export.proofs.export.write_commits.Given as goal

abbrev pub invariant-loop-name : goal.invariant-loop-name
invariant-loop-name g l =
    AreCommitsWritten g.O.Sink.tells g.O.Sink.written g.O.Sink.faults g.O.Sink.refusals l.fn.sink l.sink l.fn.kept.text.items l.kept.text.items l.store l.refname l.commits l.name-index l.marks l.kept.lines
