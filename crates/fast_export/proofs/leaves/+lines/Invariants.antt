use Rattle.std.proofs.Common.{◌+◌, ◌*◌, length}
use Rattle.git_objects.specs.Trees.{Flat}
use Rattle.object_store.specs.Unfolding.{flat}
use Rattle.fast_export.specs.Known.{AreKnown}
use Rattle.fast_export.specs.MarkedStores.{blobs_of}
use Rattle.fast_export.proofs.WrittenLeaves.{AreEntryLinesWritten}
use Rattle.fast_export.proofs.leaves.+lines.Given as goal

abbrev pub decreases-write_lines : goal.decreases-write_lines
decreases-write_lines g l = 3 * l.depth

abbrev pub decreases-write_directory : goal.decreases-write_directory
decreases-write_directory g l = 3 * l.depth + 1

abbrev pub decreases-write_entry : goal.decreases-write_entry
decreases-write_entry g l = 3 * l.depth + 2

abbrev pub invariant-write_lines-entries : goal.invariant-write_lines-entries
invariant-write_lines-entries g l =
    ((done : Flat) × AreEntryLinesWritten g.O.Sink.tells g.O.Sink.written g.O.Sink.faults g.O.Sink.refusals l.fn.sink l.sink l.fn.kept.text.items l.kept.text.items l.marked.store.now (blobs_of l.marked) l.front (flat l.marked.store.now l.fn.tree.0) done l.left l.whole)
    × AreKnown l.marked.store.now (blobs_of l.marked) l.kept.lines

abbrev pub decreases-write_lines-entries : goal.decreases-write_lines-entries
decreases-write_lines-entries g l = length l.left
