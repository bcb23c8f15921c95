use Rattle.std.proofs.Common.{length}
use Rattle.git_objects.specs.Trees.{Flat}
use Rattle.object_store.specs.Unfolding.{flat}
use Rattle.fast_export.proofs.WrittenBlobs.{AreWritten}
use Rattle.fast_export.proofs.blobs.write_each_new_blob.Given as goal

abbrev pub invariant-leaves : goal.invariant-leaves
invariant-leaves g l =
    (done : Flat) × AreWritten g.O.Sink.tells g.O.Sink.written g.O.Sink.faults g.O.Sink.refusals l.fn.sink l.sink l.fn.kept.items l.kept.items l.fn.store (flat l.fn.store l.fn.tree.0) done l.walk.left l.fn.marks l.marks

abbrev pub decreases-leaves : goal.decreases-leaves
decreases-leaves g l = length l.walk.left
