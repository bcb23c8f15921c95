-- What a disk is: bytes, and what a stop may leave of them.
use Rattle.std.specs.Prelude.{◌≡◌, ◌<◌, ◌≤◌, ◌⊎◌, ◌+◌, ◌++◌, [], ◌∷◌, ℕ, List, length, take, drop, max, slice_index, Some, None, ⊤}
use Rattle.std.specs.declared.option.Option.{Option}
use Rattle.proj_io.specs.Stops.{OnlyAdds}

-- a disk at one moment
pub record DiskView : Type 0 where
  -- as they read
  pub bytes : List ℕ
  -- at the last sync that succeeded, or at first
  pub synced : List ℕ
  -- where each range begins that was written since, and how long it is, the last one first
  pub ranges : List (ℕ × ℕ)

-- a place stands in none of these ranges
abbrev pub IsOutside : List (ℕ × ℕ) → ℕ → Type 0
IsOutside [] place = ⊤
IsOutside (range ∷ ranges) place = ((place < range.0) ⊎ (range.0 + range.1 ≤ place)) × IsOutside ranges place

-- the end of the range that goes furthest
abbrev pub furthest : ℕ → List (ℕ × ℕ) → ℕ
furthest end [] = end
furthest end (range ∷ ranges) = max (range.0 + range.1) (furthest end ranges)

-- what a stop may leave: any bytes in the ranges written since the last sync and past the old end, the same elsewhere
pub record IsImage (disk : DiskView) (image : List ℕ) : Type 0 where
  pub no_shorter : length disk.synced ≤ length image
  pub no_longer : length image ≤ furthest (length disk.synced) disk.ranges
  pub same : (place : ℕ) → place < length disk.synced → IsOutside disk.ranges place
      → slice_index image place ≡ slice_index disk.synced place

-- a disk that isn't known leaves nothing that is
abbrev pub IsLeftBy : Option DiskView → List ℕ → Type 0
IsLeftBy None image = ⊥
IsLeftBy (Some disk) image = IsImage disk image

-- what a stop may leave, of a disk that doesn't tell it
abbrev pub NothingLeft : ℕ → List ℕ → Type 0
NothingLeft t image = ⊥

-- these bytes at a place
abbrev pub put : ℕ → List ℕ → List ℕ → List ℕ
put at piece bytes = take at bytes ++ (piece ++ drop (at + length piece) bytes)

-- a disk whose bytes are stable
abbrev pub stable : List ℕ → DiskView
stable bytes = record { bytes = bytes; synced = bytes; ranges = [] }

-- a disk with a piece written
abbrev pub written : ℕ → List ℕ → DiskView → DiskView
written at piece disk = record {
  bytes = put at piece disk.bytes;
  synced = disk.synced;
  ranges = (at, length piece) ∷ disk.ranges;
}

-- a disk with a further range in which any bytes may stand
abbrev pub widened : ℕ → ℕ → DiskView → DiskView
widened at n disk = record disk { ranges = (at, n) ∷ disk.ranges }

-- a disk after a write that failed: any bytes in its range, which counts as written
pub record IsTorn (at n : ℕ) (old new : DiskView) : Type 0 where
  pub bytes : IsImage (widened at n (stable old.bytes)) new.bytes
  pub images : (image : List ℕ) → IsImage new image → IsImage (widened at n old) image

-- the same where the disk is known; one that isn't stays unknown
abbrev pub IsTornIfKnown : ℕ → ℕ → Option DiskView → Option DiskView → Type 0
IsTornIfKnown at n None new = new ≡ None
IsTornIfKnown at n (Some old) None = ⊥
IsTornIfKnown at n (Some old) (Some new) = IsTorn at n old new

-- Time goes on: what a stop since t may leave is what it might have left before, and what it may leave now.
pub record Elapses (before now : ℕ) (past since : ℕ → List ℕ → Type 0) (disk : Option DiskView) : Type 0 where
  pub adds : OnlyAdds before now past since (IsLeftBy disk)
  pub keeps : (t : ℕ) (image : List ℕ) → t ≤ before → past t image → since t image

-- the bytes from a place on, as many as a buffer takes
abbrev pub front_at : ℕ → ℕ → List ℕ → List ℕ
front_at at room bytes = take room (drop at bytes)
