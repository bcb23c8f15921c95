-- Worked examples: a disk with the bytes 7 8, on which 5 6 is written at 1, which is synced, and on which 4 is then written at 0.
use Rattle.std.specs.Prelude.{◌≡◌, ◌<◌, ◌≤◌, ◌+◌, refl, [], ◌∷◌, ℕ, None, Some, slice_index}
use Rattle.std.proofs.Common.{zero, suc, arith, ⊎_elim, inr}
use Rattle.proj_disk.specs.Disks.{IsImage, IsOutside}
use Rattle.proj_disk.specs.declared.mem_disk.Fill.TheVariants.{Old, Ones}
use Rattle.proj_disk.specs.MemDisks.{MemDiskState, view_of, view_after, filled}

abbrev disk : MemDiskState
disk = record {
  start = 7 ∷ 8 ∷ [];
  writes = record { at = 1; piece = 5 ∷ 6 ∷ []; call = 0; sync = Some 1 } ∷ record { at = 0; piece = 4 ∷ []; call = 2; sync = None } ∷ [];
  failing = [];
  calls = 3;
  faults = 0;
}

pub it_reads_what_was_written : (view_of disk).bytes ≡ 4 ∷ 5 ∷ 6 ∷ []
it_reads_what_was_written = refl

pub it_keeps_what_was_synced : (view_of disk).synced ≡ 7 ∷ 5 ∷ 6 ∷ []
it_keeps_what_was_synced = refl

pub a_stop_before_the_sync_leaves_any_bytes : filled Ones (view_after 1 disk) ≡ 7 ∷ 1 ∷ 1 ∷ []
a_stop_before_the_sync_leaves_any_bytes = refl

pub or_the_old_ones : filled Old (view_after 1 disk) ≡ 7 ∷ 8 ∷ []
or_the_old_ones = refl

pub a_stop_after_the_sync_leaves_what_was_written : filled Ones (view_after 2 disk) ≡ 7 ∷ 5 ∷ 6 ∷ []
a_stop_after_the_sync_leaves_what_was_written = refl

pub a_later_write_is_not_stable : filled Ones (view_after 3 disk) ≡ 1 ∷ 5 ∷ 6 ∷ []
a_later_write_is_not_stable = refl

-- any byte in a range, and only there
other_byte : (place : ℕ) → place < 3 → IsOutside ((0, 1) ∷ []) place → slice_index (9 ∷ 5 ∷ 6 ∷ []) place ≡ slice_index (7 ∷ 5 ∷ 6 ∷ []) place
other_byte zero lt out = absurd (⊎_elim (λ (below : 0 < 0). omega (arith, below)) (λ (above : 0 + 1 ≤ 0). omega (arith, above)) out.0)
other_byte (suc zero) lt out = refl
other_byte (suc (suc zero)) lt out = refl
other_byte (suc (suc (suc place))) lt out = absurd (omega arith)

pub another_byte_in_a_range_is_an_image : IsImage (view_of disk) (9 ∷ 5 ∷ 6 ∷ [])
another_byte_in_a_range_is_an_image = record { no_shorter = omega arith; no_longer = omega arith; same = other_byte }

pub another_byte_elsewhere_is_none : IsImage (view_of disk) (4 ∷ 5 ∷ 9 ∷ []) → ⊥
another_byte_elsewhere_is_none is = let same : 9 ≡ 6 = is.same 2 (omega arith) (inr (omega arith), tt) in omega (arith, same)

pub fewer_bytes_are_none : IsImage (view_of disk) (4 ∷ 5 ∷ []) → ⊥
fewer_bytes_are_none is = let long : 3 ≤ 2 = is.no_shorter in omega (arith, long)
