-- What a disk in memory may leave, as its list of writes grows.
use Rattle.std.specs.Prelude.{◌≡◌, ◌<◌, ◌≤◌, ◌⊎◌, ◌+◌, ◌++◌, [], ◌∷◌, ℕ, List, length, drop, max, Some, None}
use Rattle.std.proofs.Common.{inl, inr, ⊎_elim, refl, sym, ◌∙◌, ap, subst, arith, zero, suc, length-append, get_or}
use Rattle.std.proofs.lemmas.List.{places}
use Rattle.std.specs.declared.option.Option.{Option}
use Rattle.proj_disk.specs.Disks.{DiskView, IsImage, put, stable, written, widened}
use Rattle.proj_disk.specs.declared.mem_disk.DiskWrite.{DiskWrite}
use Rattle.proj_disk.specs.MemDisks.{MemDiskState, settled, after, steps_of, moments, IsLeftByOne, LeftSince, moment_of, view_of, views}

-- one more range allows no less
pub widen : (disk : DiskView) (at n : ℕ) (image : List ℕ) → IsImage disk image → IsImage (widened at n disk) image
widen disk at n image is = record {
  no_shorter = is.no_shorter;
  no_longer = omega (arith, is.no_longer);
  same = λ place lt out. is.same place lt out.1;
}

-- bytes that are stable are their own image
pub stable_image : (bytes : List ℕ) → IsImage (stable bytes) bytes
stable_image bytes = record { no_shorter = omega arith; no_longer = omega arith; same = λ place lt out. refl }

put_below : (at : ℕ) (piece bytes : List ℕ) (place : ℕ) → place < length bytes → place < at → get_or (put at piece bytes) place 0 ≡ get_or bytes place 0
put_below at piece bytes place lt below = grind (arith, places)

put_above : (at : ℕ) (piece bytes : List ℕ) (place : ℕ) → place < length bytes → at + length piece ≤ place → get_or (put at piece bytes) place 0 ≡ get_or bytes place 0
put_above at piece bytes place lt above = grind (arith, places)

put_longer : (at : ℕ) (piece bytes : List ℕ) → length bytes ≤ length (put at piece bytes)
put_longer at piece bytes = grind (arith, places)

put_shorter : (at : ℕ) (piece bytes : List ℕ) → length (put at piece bytes) ≤ max (at + length piece) (length bytes)
put_shorter at piece bytes = grind (arith, places)

written_image : (disk : DiskView) (at : ℕ) (piece : List ℕ) → IsImage disk disk.bytes → IsImage (written at piece disk) (written at piece disk).bytes
written_image disk at piece is = record {
  no_shorter = omega (arith, is.no_shorter, put_longer at piece disk.bytes);
  no_longer = omega (arith, is.no_longer, put_shorter at piece disk.bytes);
  same = λ place lt out.
      let within : place < length disk.bytes = omega (arith, is.no_shorter) in
      let kept : get_or (put at piece disk.bytes) place 0 ≡ get_or disk.bytes place 0 =
      ⊎_elim (λ below. put_below at piece disk.bytes place within below) (λ above. put_above at piece disk.bytes place within above) out.0 in
      kept ∙ is.same place lt out.1;
}

settled_image : (sync : Option ℕ) (disk : DiskView) → IsImage disk disk.bytes → IsImage (settled sync disk) (settled sync disk).bytes
settled_image None disk is = is
settled_image (Some call) disk is = stable_image disk.bytes

after_image : (disk : DiskView) (writes : List DiskWrite) → IsImage disk disk.bytes → IsImage (after disk writes) (after disk writes).bytes
after_image disk [] is = is
after_image disk (w ∷ writes) is =
    after_image (settled w.sync (written w.at w.piece disk)) writes (settled_image w.sync (written w.at w.piece disk) (written_image disk w.at w.piece is))

pub view_reads : (s : MemDiskState) → IsImage (view_of s) (view_of s).bytes
view_reads s = after_image (stable s.start) s.writes (stable_image s.start)

pub one_left : (disks more : List DiskView) (image : List ℕ) → IsLeftByOne disks image → IsLeftByOne (disks ++ more) image
one_left [] more image one = absurd one
one_left (d ∷ disks) more image (inl here) = inl here
one_left (d ∷ disks) more image (inr there) = inr (one_left disks more image there)

pub one_last : (disks : List DiskView) (last : DiskView) (image : List ℕ) → IsImage last image → IsLeftByOne (disks ++ last ∷ []) image
one_last [] last image is = inl is
one_last (d ∷ disks) last image is = inr (one_last disks last image is)

pub one_split : (disks : List DiskView) (last : DiskView) (image : List ℕ) → IsLeftByOne (disks ++ last ∷ []) image → IsLeftByOne disks image ⊎ IsImage last image
one_split [] last image (inl here) = inr here
one_split [] last image (inr none) = absurd none
one_split (d ∷ disks) last image (inl here) = inl (inl here)
one_split (d ∷ disks) last image (inr there) = ⊎_elim (λ one. inl (inr one)) (λ new. inr new) (one_split disks last image there)

pub drop_push : (t : ℕ) (disks : List DiskView) (last : DiskView) → t ≤ length disks → drop t (disks ++ last ∷ []) ≡ drop t disks ++ last ∷ []
drop_push zero disks last le = refl
drop_push (suc t) [] last le = absurd (omega arith)
drop_push (suc t) (d ∷ disks) last le = drop_push t disks last (omega arith)

drop_none : (disks : List DiskView) → drop (length disks) disks ≡ []
drop_none [] = refl
drop_none (d ∷ disks) = drop_none disks

-- disks of which this is the last
record Ends (disks : List DiskView) (last : DiskView) : Type 0 where
  front : List DiskView
  is : disks ≡ front ++ last ∷ []

step_ends : (first disk last : DiskView) (sync : Option ℕ) (more : List DiskView) → Ends (settled sync disk ∷ more) last → Ends (first ∷ (steps_of sync disk ++ more)) last
step_ends first disk last None more ends = record { front = first ∷ ends.front; is = ap (λ (l : List DiskView). first ∷ l) ends.is }
step_ends first disk last (Some call) more ends = record { front = first ∷ disk ∷ ends.front; is = ap (λ (l : List DiskView). first ∷ disk ∷ l) ends.is }

ends : (disk : DiskView) (writes : List DiskWrite) → Ends (disk ∷ moments disk writes) (after disk writes)
ends disk [] = record { front = []; is = refl }
ends disk (w ∷ writes) =
    let next = settled w.sync (written w.at w.piece disk) in
    step_ends disk (written w.at w.piece disk) (after next writes) w.sync (moments next writes) (ends next writes)

front_length : (front : List DiskView) (first last : DiskView) (more : List DiskView) → first ∷ more ≡ front ++ last ∷ [] → length more ≡ length front
front_length front first last more is = omega (arith, ap length is, length-append front (last ∷ []))

module _ (s : MemDiskState) where
  found : Ends (views s) (view_of s)
  found = ends (stable s.start) s.writes

  long : length (moments (stable s.start) s.writes) ≡ length found.front
  long = front_length found.front (stable s.start) (view_of s) (moments (stable s.start) s.writes) found.is

  -- what a stop may leave now counts since each moment so far
  pub view_counts : (t : ℕ) (image : List ℕ) → t ≤ moment_of s → IsImage (view_of s) image → LeftSince s t image
  view_counts t image le is =
      let split : drop t (views s) ≡ drop t found.front ++ view_of s ∷ [] =
      ap (λ (l : List DiskView). drop t l) found.is ∙ drop_push t found.front (view_of s) (omega (arith, le, long)) in
      subst (λ (l : List DiskView). IsLeftByOne l image) (sym split) (one_last (drop t found.front) (view_of s) image is)

  -- since now there is nothing else
  pub only_view : (image : List ℕ) → LeftSince s (moment_of s) image → IsImage (view_of s) image
  only_view image one =
      let t = length (moments (stable s.start) s.writes) in
      let none : drop t found.front ≡ [] = ap (λ (n : ℕ). drop n found.front) long ∙ drop_none found.front in
      let split : drop t (views s) ≡ view_of s ∷ [] =
      ap (λ (l : List DiskView). drop t l) found.is ∙ drop_push t found.front (view_of s) (omega (arith, long)) ∙ ap (λ (l : List DiskView). l ++ view_of s ∷ []) none in
      ⊎_elim (λ here. here) (λ no. absurd no) (subst (λ (l : List DiskView). IsLeftByOne l image) split one)
