use Rattle.std.proofs.Common.{ap, sym, ◌∙◌, subst, Some}
use Rattle.proj_disk.specs.Disks.{DiskView, stable}
use Rattle.proj_disk.specs.MemDisks.{MemDiskState, after, view_of}
use Rattle.proj_disk.proofs.Writes.{Passes, after-marked, sync_time}
use Rattle.proj_disk.proofs.mem_disk.MemDiskDisk.sync.Goals as goal

pub invariant_of-self-2 : goal.invariant_of-self-2
invariant_of-self-2 c =
    let start = c.self.inside.start.items in
    let view = (λ i. after (stable start) (c.mark_last.ensures i)) ∙ after-marked c.self.inside.calls start c.self.inside.writes.items in
    c.self.invariant ∙ sym (ap (λ (d : DiskView). d.bytes) view)

pub returns-clause-stable : goal.returns-clause-stable
returns-clause-stable c =
    let start = c.self.inside.start.items in
    let view = (λ i. after (stable start) (c.mark_last.ensures i)) ∙ after-marked c.self.inside.calls start c.self.inside.writes.items in
    ap Some (view ∙ ap (λ (s : MemDiskState). stable (view_of s).bytes) c.self.view_is)

pub returns-clause-time : goal.returns-clause-time
returns-clause-time c =
    let start = c.self.inside.start.items in
    let new : MemDiskState = record {
      start = start;
      writes = c.mark_last.new.writes.items;
      failing = c.self.inside.failing.items;
      calls = c.number_call.new.calls;
      faults = c.number_call.new.faults;
    } in
    subst (λ (s : MemDiskState). Passes s new) c.self.view_is
    (sync_time start c.self.inside.writes.items c.mark_last.new.writes.items c.self.inside.calls c.mark_last.ensures)
