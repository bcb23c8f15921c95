use Rattle.std.proofs.Common.{Some}
use Rattle.proj_disk.specs.MemDisks.{MemDiskState, view_of}
use Rattle.proj_journal.specs.Journals.{IsOpen}
use Rattle.device_tests.proofs.journals.has_items.Given as goal

abbrev pub invariant-loop-item : goal.invariant-loop-item
invariant-loop-item l = IsOpen (λ (s : MemDiskState). Some (view_of s)) l.journal
