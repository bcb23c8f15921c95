use Rattle.incremental_export.proofs.PlacedBlobs.{AreBlobsWritten}
use Rattle.incremental_export.proofs.commits.write_blobs.Given as goal

abbrev pub invariant-loop-placed : goal.invariant-loop-placed
invariant-loop-placed g l =
    AreBlobsWritten g.O.Sink.tells g.O.Sink.written g.O.Sink.faults g.O.Sink.refusals l.fn.sink l.sink l.fn.kept.items l.kept.items l.store l.leaves l.placed-index l.fn.marks l.marks
