use Rattle.std.proofs.Common.{Some}
use Rattle.proj_disk.specs.MemDisks.{MemDiskState, view_of}
use Rattle.proj_journal.specs.Journals.{IsOpen}
use Rattle.program_tests.proofs.stops.each_image_has_the_acknowledged_commands.Given as goal

abbrev pub invariant-loop-number : goal.invariant-loop-number
invariant-loop-number g l = IsOpen (λ (s : MemDiskState). Some (view_of s)) l.journal
