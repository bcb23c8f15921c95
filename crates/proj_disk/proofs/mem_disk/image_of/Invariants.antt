use Rattle.std.proofs.Common.{◌≡◌, [], drop}
use Rattle.std.specs.Prelude.{if◌then◌else◌}
use Rattle.proj_disk.specs.Disks.{DiskView, stable}
use Rattle.proj_disk.specs.MemDisks.{after, early_writes, IsFollowed}
use Rattle.proj_disk.proofs.mem_disk.image_of.Given as goal

abbrev pub invariant-loop-write : goal.invariant-loop-write
invariant-loop-write l = (disk : DiskView) × IsFollowed l.fill disk l.now.items l.image.items
    × (after disk (if l.late then [] else early_writes l.calls (drop l.write-index l.writes)) ≡ after (stable l.start) (early_writes l.calls l.writes))
