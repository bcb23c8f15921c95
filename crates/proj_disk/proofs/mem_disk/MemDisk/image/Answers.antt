use Rattle.std.proofs.Common.{rules}
use Rattle.std.specs.Prelude.{IfOk}
use Rattle.proj_disk.specs.Disks.{IsImage}
use Rattle.proj_disk.specs.MemDisks.{view_after}
use Rattle.proj_disk.proofs.Images.{if_ok, image_since}
use Rattle.proj_disk.proofs.mem_disk.MemDisk.image.Goals as goal

pub returns-clause-since : goal.returns-clause-since
returns-clause-since c =
    let left : IfOk c.image_of.result (λ image. IsImage (view_after c.args.calls c.args.self.now) image.items) = search rules in
    if_ok _ _ c.image_of.result (λ image is. image_since c.args.calls image.items c.args.self.now is) left
