-- The images that a disk in memory gives.
use Rattle.std.proofs.Common.{◌≡◌, ◌++◌, [], ◌∷◌, ℕ, List, Bool, true, false, Some, None, inl, inr}
use Rattle.std.specs.Prelude.{nat_lt, not, if◌then◌else◌, IfOk, Result, Ok, Err}
use Rattle.std.specs.declared.option.Option.{Option}
use Rattle.proj_disk.specs.Disks.{DiskView, IsImage, stable, written}
use Rattle.proj_disk.specs.declared.mem_disk.DiskWrite.{DiskWrite}
use Rattle.proj_disk.specs.declared.mem_disk.Fill.{Fill}
use Rattle.proj_disk.specs.declared.mem_disk.Fill.TheVariants.{Old, Written, Ones}
use Rattle.proj_disk.specs.MemDisks.{MemDiskState, after, settled, steps_of, moments, IsLeftByOne, LeftSince, early, is_late, early_writes, view_after, filled}

-- at first all is stable, however it is filled
pub filled_first : (fill : Fill) (start image : List ℕ) → image ≡ start → image ≡ filled fill (stable start)
filled_first Old start image is = is
filled_first Written start image is = is
filled_first Ones start image is = is

-- the disk after the first so many calls is one of those that were
module _ (calls : ℕ) (image : List ℕ) where
  abbrev Left : DiskView → List DiskWrite → Type 0
  Left disk writes = IsImage (after disk (early_writes calls writes)) image → IsLeftByOne (disk ∷ moments disk writes) image

  by_time : (b : Bool) (call : ℕ) (first disk : DiskView) (writes : List DiskWrite) → ((next : DiskView) → Left next writes)
      → IsImage (after (settled (if b then Some call else None) disk) (if not b then [] else early_writes calls writes)) image
      → IsLeftByOne (first ∷ disk ∷ stable disk.bytes ∷ moments (stable disk.bytes) writes) image
  by_time true call first disk writes more is = inr (inr (more (stable disk.bytes) is))
  by_time false call first disk writes more is = inr (inl is)

  by_sync : (sync : Option ℕ) (first disk : DiskView) (writes : List DiskWrite) → ((next : DiskView) → Left next writes)
      → IsImage (after (settled (early calls sync) disk) (if is_late calls sync then [] else early_writes calls writes)) image
      → IsLeftByOne (first ∷ (steps_of sync disk ++ moments (settled sync disk) writes)) image
  by_sync None first disk writes more is = inr (more disk is)
  by_sync (Some call) first disk writes more is = by_time (nat_lt call calls) call first disk writes more is

  by_call : (b : Bool) (disk : DiskView) (w : DiskWrite) (writes : List DiskWrite) → ((next : DiskView) → Left next writes)
      → IsImage (after disk (if b then record w { sync = early calls w.sync } ∷ (if is_late calls w.sync then [] else early_writes calls writes) else [])) image
      → IsLeftByOne (disk ∷ moments disk (w ∷ writes)) image
  by_call true disk w writes more is = by_sync w.sync disk (written w.at w.piece disk) writes more is
  by_call false disk w writes more is = inl is

  left_by_one : (disk : DiskView) (writes : List DiskWrite) → Left disk writes
  left_by_one disk [] is = inl is
  left_by_one disk (w ∷ writes) is = by_call (nat_lt w.call calls) disk w writes (λ next. left_by_one next writes) is

  pub image_since : (s : MemDiskState) → IsImage (view_after calls s) image → LeftSince s 0 image
  image_since s is = left_by_one (stable s.start) s.writes is

pub if_ok : {T E : Type 0} (P Q : T → Type 0) (result : Result T E) → ((value : T) → P value → Q value) → IfOk result P → IfOk result Q
if_ok P Q (Ok value) to is = to value is
if_ok P Q (Err error) to is = tt
