-- A disk in memory, with what a stop may leave at each moment since it was made.
use Rattle.std.specs.Prelude.{◌≡◌, ◌⊎◌, ◌↔◌, ◌++◌, [], ◌∷◌, ℕ, List, Bool, false, length, drop, replicate, not, Contains, Result, Ok, Err, None, Some, nat_lt, if◌then◌else◌}
use Rattle.std.specs.declared.option.Option.{Option}
use Rattle.proj_io.specs.Counts.{one_more}
use Rattle.proj_io.specs.declared.source.SinkError.{SinkError}
use Rattle.proj_io.specs.declared.source.SinkError.TheVariants.{Failed, OutOfMemory}
use Rattle.proj_disk.specs.Disks.{DiskView, IsImage, put, stable, written}
use Rattle.proj_disk.specs.declared.mem_disk.DiskWrite.{DiskWrite}
use Rattle.proj_disk.specs.declared.mem_disk.Fill.{Fill}
use Rattle.proj_disk.specs.declared.mem_disk.Fill.TheVariants.{Old, Written, Ones}

-- the bytes at first, each write so far, the calls that fail, this call's number
pub record MemDiskState : Type 0 where
  pub start : List ℕ
  pub writes : List DiskWrite
  pub failing : List ℕ
  pub calls : ℕ
  pub faults : ℕ

-- ---- the disk after its writes

-- the disk after a write, and after the sync that followed before the next write, if there was one
abbrev pub settled : Option ℕ → DiskView → DiskView
settled None disk = disk
settled (Some call) disk = stable disk.bytes

-- the disk after these writes
abbrev pub after : DiskView → List DiskWrite → DiskView
after disk [] = disk
after disk (w ∷ writes) = after (settled w.sync (written w.at w.piece disk)) writes

-- the disk as it is now
abbrev pub view_of : MemDiskState → DiskView
view_of s = after (stable s.start) s.writes

-- ---- the disk at each moment

-- the disk after a write, and again after the sync that followed it, if there was one
abbrev pub steps_of : Option ℕ → DiskView → List DiskView
steps_of None disk = disk ∷ []
steps_of (Some call) disk = disk ∷ stable disk.bytes ∷ []

-- the disk after each write and each sync that followed one
abbrev pub moments : DiskView → List DiskWrite → List DiskView
moments disk [] = []
moments disk (w ∷ writes) = steps_of w.sync (written w.at w.piece disk) ++ moments (settled w.sync (written w.at w.piece disk)) writes

-- the disk at each moment so far
abbrev pub views : MemDiskState → List DiskView
views s = stable s.start ∷ moments (stable s.start) s.writes

-- the number of the present moment
abbrev pub moment_of : MemDiskState → ℕ
moment_of s = length (moments (stable s.start) s.writes)

-- one of these disks leaves the image
abbrev pub IsLeftByOne : List DiskView → List ℕ → Type 0
IsLeftByOne [] image = ⊥
IsLeftByOne (disk ∷ disks) image = IsImage disk image ⊎ IsLeftByOne disks image

-- a stop at some moment from that one on may leave the image
abbrev pub LeftSince : MemDiskState → ℕ → List ℕ → Type 0
LeftSince s t image = IsLeftByOne (drop t (views s)) image

-- ---- calls

abbrev pub mark : ℕ → Option ℕ → Option ℕ
mark call None = Some call
mark call (Some earlier) = Some earlier

-- the writes with the last of them synced
abbrev pub marked : ℕ → List DiskWrite → List DiskWrite
marked call [] = []
marked call (w ∷ []) = record w { sync = mark call w.sync } ∷ []
marked call (w ∷ v ∷ writes) = w ∷ marked call (v ∷ writes)

-- the disk after a call that failed
abbrev pub after_fault : MemDiskState → MemDiskState
after_fault old = record old { calls = one_more old.calls; faults = one_more old.faults }

-- the disk after a call of `len` or `read`
abbrev pub after_read : {T E : Type 0} → MemDiskState → Result T E → MemDiskState
after_read old (Ok _) = record old { calls = one_more old.calls }
after_read old (Err _) = after_fault old

-- the disk after a write; one that fails writes nothing
abbrev pub after_write : {T : Type 0} → MemDiskState → ℕ → List ℕ → Result T SinkError → MemDiskState
after_write old at piece (Ok _) = record old {
  writes = old.writes ++ record { at = at; piece = piece; call = old.calls; sync = None } ∷ [];
  calls = one_more old.calls;
}
after_write old at piece (Err Failed) = after_fault old
after_write old at piece (Err OutOfMemory) = record old { calls = one_more old.calls }

-- the disk after a sync
abbrev pub after_sync : {T E : Type 0} → MemDiskState → Result T E → MemDiskState
after_sync old (Ok _) = record old { writes = marked old.calls old.writes; calls = one_more old.calls }
after_sync old (Err _) = after_fault old

-- a call fails exactly where its number is in the list of those that fail
abbrev pub FailsByNumber : MemDiskState → Type 0 → Type 0
FailsByNumber old Failing = Failing ↔ Contains old.failing old.calls

-- ---- images

-- the sync that followed a write, if it is among the first so many calls
abbrev pub early : ℕ → Option ℕ → Option ℕ
early calls None = None
early calls (Some call) = if nat_lt call calls then Some call else None

-- the sync that followed a write isn't among the first so many calls
abbrev pub is_late : ℕ → Option ℕ → Bool
is_late calls None = false
is_late calls (Some call) = not (nat_lt call calls)

-- the writes of the first so many calls, with the syncs among these
abbrev pub early_writes : ℕ → List DiskWrite → List DiskWrite
early_writes calls [] = []
early_writes calls (w ∷ writes) = if nat_lt w.call calls
    then record w { sync = early calls w.sync } ∷ (if is_late calls w.sync then [] else early_writes calls writes)
    else []

-- the disk after the first so many calls
abbrev pub view_after : ℕ → MemDiskState → DiskView
view_after calls s = after (stable s.start) (early_writes calls s.writes)

-- bytes with the byte 1 all over these ranges
abbrev pub with_ones : List (ℕ × ℕ) → List ℕ → List ℕ
with_ones [] bytes = bytes
with_ones (range ∷ ranges) bytes = put range.0 (replicate range.1 1) (with_ones ranges bytes)

-- an image that a stop leaves: in the ranges that aren't stable stands what stood there, what was written, or the byte 1
abbrev pub filled : Fill → DiskView → List ℕ
filled Old disk = disk.synced
filled Written disk = disk.bytes
filled Ones disk = with_ones disk.ranges disk.synced

-- two buffers have the bytes of a disk, and an image that a stop leaves of it
pub record IsFollowed (fill : Fill) (disk : DiskView) (now image : List ℕ) : Type 0 where
  pub bytes : now ≡ disk.bytes
  pub left : IsImage disk image
  pub filled : image ≡ filled fill disk
