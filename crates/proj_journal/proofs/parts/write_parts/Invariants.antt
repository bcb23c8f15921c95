use Rattle.std.proofs.Common.{take}
use Rattle.proj_io.specs.Items.{joined}
use Rattle.proj_journal.specs.Gathering.{IsGathered, WritesBehind}
use Rattle.proj_journal.proofs.parts.write_parts.Given as goal

abbrev pub invariant-loop-part : goal.invariant-loop-part
invariant-loop-part g l =
    let d = g.D.Disk in
    record {
      behind : WritesBehind d.content d.moment d.left_since d.faults l.end l.fn.disk l.disk ⊥;
      gathered : IsGathered l.at l.next (joined (take l.part-index l.parts)) l.buffer.items (d.content l.fn.disk) (d.content l.disk);
    }
