use Rattle.std.proofs.Common.{refl, subst, sym}
use Rattle.proj_disk.specs.Disks.{IsTornIfKnown}
use Rattle.proj_journal.proofs.Making.{header_torn, new_list, still_known}
use Rattle.proj_journal.proofs.records.write_header.Goals as goal

pub returns-in-Ok-clause-made : goal.returns-in-Ok-clause-made
returns-in-Ok-clause-made g c = new_list _ (g.D.Disk.content c.write_at.new.self) _ c.requires c.in_ok-write_at.ensures.written c.in-Ok.ensures.stable

pub returns-in-Ok-clause-told : goal.returns-in-Ok-clause-told
returns-in-Ok-clause-told g c = still_known _ (g.D.Disk.content c.write_at.new.self) _ _ _ c.in_ok-write_at.ensures.written c.in-Ok.ensures.stable

pub returns-in-Err-clause-failed : goal.returns-in-Err-clause-failed
returns-in-Err-clause-failed g c failed =
    subst (IsTornIfKnown 0 9 (g.D.Disk.content c.args.disk.now)) (sym (c.in-Err.ensures.failed refl))
    (header_torn _ (g.D.Disk.content c.write_at.new.self) c.requires c.in_ok-write_at.ensures.written)
