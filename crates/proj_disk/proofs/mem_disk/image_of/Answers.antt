use Rattle.std.proofs.Common.{◌≡◌, sym, refl, subst, rules}
use Rattle.proj_disk.specs.Disks.{IsImage, stable}
use Rattle.proj_disk.specs.Moments.{stable_image}
use Rattle.proj_disk.proofs.Images.{filled_first}
use Rattle.proj_disk.proofs.mem_disk.image_of.Goals as goal

pub loop-write-init : goal.loop-write-init
loop-write-init c =
    let start = c.args.start.now in
    let now_is : c.in_ok-now.now.items ≡ start = search rules in
    let image_is : c.in_ok-image.image.items ≡ start = search rules in (
      stable start,
      record { bytes = now_is; left = subst (IsImage (stable start)) (sym image_is) (stable_image start); filled = filled_first c.args.fill start c.in_ok-image.image.items image_is },
      refl,
    )
