use Rattle.std.proofs.Common.{length}
use Rattle.git_objects.specs.Trees.{Flat}
use Rattle.object_store.specs.Unfolding.{flat}
use Rattle.fast_export.proofs.WrittenLeaves.{AreLinesWritten}
use Rattle.fast_export.proofs.leaves.write_each_leaf.Given as goal

abbrev pub invariant-leaves : goal.invariant-leaves
invariant-leaves g l =
    (done : Flat) × AreLinesWritten g.O.Sink.tells g.O.Sink.written g.O.Sink.faults g.O.Sink.refusals l.fn.sink l.sink l.fn.kept.items l.kept.items l.marked.store.now l.front (flat l.marked.store.now l.fn.tree.0) done l.walk.left l.marked.marks.now

abbrev pub decreases-leaves : goal.decreases-leaves
decreases-leaves g l = length l.walk.left
