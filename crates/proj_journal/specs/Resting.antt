-- What a stop leaves of a disk on which a list stands.
use Rattle.std.proofs.Common.{◌≡◌, ◌<◌, ◌≤◌, inl, ◌+◌, ◌++◌, [], ◌∷◌, ℕ, List, length, take, drop, Ok, Some, None, sym, ◌∙◌, ap, arith, length-append, append_assoc, take-append-drop}
use Rattle.std.proofs.lemmas.List.{ext_get_or, get_or-take, length-take}
use Rattle.std.specs.declared.option.Option.{Option}
use Rattle.proj_disk.specs.Disks.{DiskView, IsImage, IsLeftBy, IsOutside, stable, written, widened}
use Rattle.proj_journal.specs.Spelling.{header, records_of, spelled, listed}
use Rattle.proj_journal.specs.Rest.{AllBehind, StandsAt, IsAtRest, SpellsSame}
use Rattle.proj_journal.specs.Spelled.{spelled-list}

outside : (place : ℕ) (ranges : List (ℕ × ℕ)) (p : ℕ) → p < place → AllBehind place ranges → IsOutside ranges p
outside place [] p lt behind = tt
outside place (range ∷ ranges) p lt behind = (inl (omega (arith, behind.0)), outside place ranges p lt behind.1)

-- what stands before each range is the same in each image
pub front_stays : (disk : DiskView) (image : List ℕ) (place : ℕ) → place ≤ length disk.synced → AllBehind place disk.ranges → IsImage disk image → take place image ≡ take place disk.synced
front_stays disk image place le behind is =
    let long : length (take place image) ≡ place = omega (arith, length-take place image, is.no_shorter) in
    let same_length : length (take place image) ≡ length (take place disk.synced) = omega (arith, long, length-take place disk.synced) in
    ext_get_or 0 (take place image) (take place disk.synced) same_length (λ i lt.
    let within : i < place = omega (arith, lt, long) in
    get_or-take place image i 0 within ∙ is.same i (omega arith) (outside place disk.ranges i within behind) ∙ sym (get_or-take place disk.synced i 0 within))

module _ (end : ℕ) (items : List (List ℕ)) (disk : DiskView) (stands : StandsAt end items disk) where
  abbrev pub head : List ℕ
  head = header ++ (records_of items ++ stands.gate ∷ [])

  pub head_long : length head ≡ end + 1
  head_long = omega (arith, stands.ends, length-append (records_of items) (stands.gate ∷ []))

  pub within : end + 1 ≤ length disk.synced
  within = omega (arith, ap length stands.front, head_long, length-take (end + 1) disk.synced)

  pub whole : (image : List ℕ) → IsImage disk image → image ≡ header ++ (records_of items ++ (stands.gate ∷ drop (end + 1) image))
  whole image is =
      sym (take-append-drop (end + 1) image)
      ∙ ap (λ (l : List ℕ). l ++ drop (end + 1) image) (front_stays disk image (end + 1) within stands.behind is ∙ stands.front)
      ∙ ap (λ (l : List ℕ). header ++ l) (append_assoc (records_of items) (stands.gate ∷ []) (drop (end + 1) image))

  -- each image spells the items
  pub spells : (image : List ℕ) → IsImage disk image → spelled image ≡ Ok items
  spells image is = ap spelled (whole image is) ∙ spelled-list items stands.gate (drop (end + 1) image) stands.sized stands.few stands.shut

  pub stands-widened : (at n : ℕ) → end < at → StandsAt end items (widened at n disk)
  stands-widened at n lt = record {
    gate = stands.gate;
    shut = stands.shut;
    front = stands.front;
    ends = stands.ends;
    sized = stands.sized;
    few = stands.few;
    behind = (omega (arith, lt), stands.behind);
  }

  pub stands-written : (at : ℕ) (piece : List ℕ) → end < at → StandsAt end items (written at piece disk)
  stands-written at piece lt = record {
    gate = stands.gate;
    shut = stands.shut;
    front = stands.front;
    ends = stands.ends;
    sized = stands.sized;
    few = stands.few;
    behind = (omega (arith, lt), stands.behind);
  }

  pub stands-stable : IsImage disk disk.bytes → StandsAt end items (stable disk.bytes)
  stands-stable reads = record {
    gate = stands.gate;
    shut = stands.shut;
    front = front_stays disk disk.bytes (end + 1) within stands.behind reads ∙ stands.front;
    ends = stands.ends;
    sized = stands.sized;
    few = stands.few;
    behind = tt;
  }

  pub room_behind : IsImage disk disk.bytes → end + 1 ≤ length disk.bytes
  room_behind reads = omega (arith, within, reads.no_shorter)

-- a disk at rest leaves its list
pub rest_images : (end : ℕ) (o : Option DiskView) → IsAtRest end o → (image : List ℕ) → IsLeftBy o image → SpellsSame o image
rest_images end None rest image left = tt
rest_images end (Some d) rest image left = spells end (listed d.bytes) d rest image left
