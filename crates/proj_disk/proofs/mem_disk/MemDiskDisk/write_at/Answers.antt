use Rattle.std.proofs.Common.{ap, sym, ◌∙◌, subst, refl, Some, None}
use Rattle.proj_disk.specs.Disks.{DiskView, put, stable, written}
use Rattle.proj_disk.specs.declared.mem_disk.DiskWrite.{DiskWrite}
use Rattle.proj_disk.specs.MemDisks.{MemDiskState, after, view_of}
use Rattle.proj_disk.proofs.Writes.{Passes, write_view, write_time}
use Rattle.proj_disk.proofs.mem_disk.MemDiskDisk.write_at.Goals as goal

pub invariant_of-self-2 : goal.invariant_of-self-2
invariant_of-self-2 c =
    let start = c.self.inside.start.items in
    let view = (λ i. after (stable start) (c.in-Ok-add.ensures.writes i))
    ∙ write_view start c.self.inside.writes.items c.args.at c.self.inside.calls c.args.piece.now in
    let bytes = rw c.deref-2.ensures.value at c.in-Ok-add.ensures.bytes in
    bytes ∙ (λ i. put c.args.at c.args.piece.now (c.self.invariant i)) ∙ sym (ap (λ (d : DiskView). d.bytes) view)

pub returns-clause-written : goal.returns-clause-written
returns-clause-written c =
    let start = c.self.inside.start.items in
    let view = (λ i. after (stable start) (c.in-Ok-add.ensures.writes i))
    ∙ write_view start c.self.inside.writes.items c.args.at c.self.inside.calls c.args.piece.now in
    ap Some (view ∙ ap (λ (s : MemDiskState). written c.args.at c.args.piece.now (view_of s)) c.self.view_is)

pub returns-clause-time : goal.returns-clause-time
returns-clause-time c =
    let start = c.self.inside.start.items in
    let new : MemDiskState = record {
      start = start;
      writes = c.add.new.writes.items;
      failing = c.self.inside.failing.items;
      calls = c.number_call.new.calls;
      faults = c.number_call.new.faults;
    } in
    let w : DiskWrite = record { at = c.args.at; piece = c.args.piece.now; call = c.self.inside.calls; sync = None } in
    subst (λ (s : MemDiskState). Passes s new) c.self.view_is
    (write_time start c.self.inside.writes.items c.add.new.writes.items w refl c.in-Ok-add.ensures.writes)
