use Rattle.std.proofs.Common.{length}
use Rattle.git_objects.specs.Trees.{Flat}
use Rattle.object_store.specs.Unfolding.{flat}
use Rattle.fast_export.proofs.WrittenBlobs.{AreEntriesWritten}
use Rattle.fast_export.proofs.blobs.+write_new_blobs.Given as goal

abbrev pub decreases-write_new_blobs : goal.decreases-write_new_blobs
decreases-write_new_blobs g l = l.depth

abbrev pub invariant-entries : goal.invariant-entries
invariant-entries g l =
    (done : Flat) × AreEntriesWritten g.O.Sink.tells g.O.Sink.written g.O.Sink.faults g.O.Sink.refusals l.fn.sink l.sink l.fn.kept.items l.kept.items l.store (flat l.store l.fn.tree.0) done l.left l.fn.marks l.marks

abbrev pub decreases-entries : goal.decreases-entries
decreases-entries g l = length l.left
