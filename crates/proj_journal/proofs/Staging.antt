-- A record that is staged: it stands whole and stable behind the shut gate.
use Rattle.std.proofs.Common.{◌≡◌, ◌<◌, ◌≤◌, ◌+◌, ◌^◌, ◌++◌, [], ◌∷◌, ℕ, List, length, take, drop, Ok, Some, None, sym, ◌∙◌, ap, subst, arith, length-append, append_assoc, take-append-drop}
use Rattle.std.proofs.lemmas.List.{take_at}
use Rattle.std.specs.declared.option.Option.{Option}
use Rattle.std.specs.Int.{w32, to_be_bytes}
use Rattle.std.specs.Prelude.{IfSome}
use Rattle.std.specs.Option.{option_map}
use Rattle.proj_disk.specs.Disks.{DiskView, IsImage, put, stable}
use Rattle.proj_journal.specs.Spelling.{header, records_of, spelled, listed, list_in}
use Rattle.proj_journal.specs.Rest.{AllBehind, StandsAt, IsAtRest, StagedAt, Stages, Puts}
use Rattle.proj_journal.specs.Spelled.{spelled-list}
use Rattle.proj_journal.specs.Resting.{front_stays, head_long, within}
use Rattle.proj_journal.proofs.Writing.{put_end}

-- the bytes behind the end, and what three writes there make of them
module _ (end : ℕ) (items : List (List ℕ)) (item : List ℕ) (disk : DiskView) (stands : StandsAt end items disk) (reads : IsImage disk disk.bytes) where
  abbrev size : List ℕ
  size = to_be_bytes w32 (length item)

  abbrev first : List ℕ
  first = header ++ (records_of items ++ stands.gate ∷ [])

  first_long : length first ≡ end + 1
  first_long = head_long end items disk stands

  abbrev rest : List ℕ
  rest = drop (end + 1) disk.bytes

  begins : disk.bytes ≡ first ++ rest
  begins =
      sym (take-append-drop (end + 1) disk.bytes)
      ∙ ap (λ (l : List ℕ). l ++ rest) (front_stays disk disk.bytes (end + 1) (within end items disk stands) stands.behind reads ∙ stands.front)

  abbrev last : List ℕ
  last = drop 1 (drop (length item) (drop (length size) rest))

  three : (one two bytes : List ℕ) → one ≡ put (end + 1) size disk.bytes → two ≡ put (end + 5) item one → bytes ≡ put (end + 5 + length item) (0 ∷ []) two
      → bytes ≡ header ++ (records_of items ++ (stands.gate ∷ (size ++ (item ++ (0 ∷ last)))))
  three one two bytes p q r =
      let a : one ≡ (first ++ size) ++ drop (length size) rest = p ∙ ap (put (end + 1) size) begins ∙ put_end first rest size (end + 1) first_long in
      let long_a : length (first ++ size) ≡ end + 5 = omega (arith, first_long, length-append first size) in
      let b : two ≡ ((first ++ size) ++ item) ++ drop (length item) (drop (length size) rest) =
      q ∙ ap (put (end + 5) item) a ∙ put_end (first ++ size) (drop (length size) rest) item (end + 5) long_a in
      let long_b : length ((first ++ size) ++ item) ≡ end + 5 + length item = omega (arith, long_a, length-append (first ++ size) item) in
      r ∙ ap (put (end + 5 + length item) (0 ∷ [])) b ∙ put_end ((first ++ size) ++ item) (drop (length item) (drop (length size) rest)) (0 ∷ []) (end + 5 + length item) long_b
      ∙ append_assoc ((first ++ size) ++ item) (0 ∷ []) last
      ∙ append_assoc (first ++ size) item (0 ∷ last)
      ∙ append_assoc first size (item ++ (0 ∷ last))
      ∙ ap (λ (l : List ℕ). header ++ l) (append_assoc (records_of items) (stands.gate ∷ []) (size ++ (item ++ (0 ∷ last))))

  pub staged_by : (one two bytes : List ℕ) (now : DiskView) → one ≡ put (end + 1) size disk.bytes → two ≡ put (end + 5) item one → bytes ≡ put (end + 5 + length item) (0 ∷ []) two
      → now ≡ stable bytes → 0 < length item → length item ≤ 2 ^ 29 → length items < 2 ^ 20 → StagedAt end item items now
  staged_by one two bytes now p q r is some small few = record {
    gate = stands.gate;
    shut = stands.shut;
    rest = last;
    bytes = ap (λ (d : DiskView). d.bytes) is ∙ three one two bytes p q r;
    settled = is ∙ ap (λ (d : DiskView). stable d.bytes) (sym is);
    ends = stands.ends;
    sized = stands.sized;
    some = some;
    small = small;
    few = few;
  }

-- the list of a staged disk is the one before
pub staged_list : (end : ℕ) (item : List ℕ) (items : List (List ℕ)) (disk : DiskView) → StagedAt end item items disk → spelled disk.bytes ≡ Ok items
staged_list end item items disk staged =
    ap spelled staged.bytes ∙ spelled-list items staged.gate _ staged.sized (omega (arith, staged.few)) staged.shut

-- and it is at rest
pub staged_stands : (end : ℕ) (item : List ℕ) (items : List (List ℕ)) (disk : DiskView) → StagedAt end item items disk → StandsAt end items disk
staged_stands end item items disk staged = record {
  gate = staged.gate;
  shut = staged.shut;
  front =
      let tail = to_be_bytes w32 (length item) ++ (item ++ (0 ∷ staged.rest)) in
      let head : List ℕ = header ++ (records_of items ++ staged.gate ∷ []) in
      let long : length head ≡ end + 1 = omega (arith, staged.ends, length-append (records_of items) (staged.gate ∷ [])) in
      ap (λ (d : DiskView). take (end + 1) d.synced) staged.settled
      ∙ ap (λ (l : List ℕ). take (end + 1) l) (staged.bytes ∙ ap (λ (l : List ℕ). header ++ l) (sym (append_assoc (records_of items) (staged.gate ∷ []) tail)))
      ∙ take_at head tail (end + 1) long;
  ends = staged.ends;
  sized = staged.sized;
  few = omega (arith, staged.few);
  behind = subst (λ (d : DiskView). AllBehind (end + 1) d.ranges) (sym staged.settled) tt;
}

-- three writes and a sync stage the item
pub puts_none : (at : ℕ) (piece : List ℕ) (o p : Option DiskView) → o ≡ None → Puts at piece o p → p ≡ None
puts_none at piece None p is puts = puts
puts_none at piece (Some d) p is puts = cc

pub stage_done : (end : ℕ) (item : List ℕ) (o a b p q : Option DiskView) → IsAtRest end o → IfSome o (λ d. length (listed d.bytes) < 2 ^ 20) → 0 < length item → length item ≤ 2 ^ 29
    → IfSome o (λ d. IsImage d d.bytes) → Puts (end + 1) (to_be_bytes w32 (length item)) o a → Puts (end + 5) item a b → Puts (end + 5 + length item) (0 ∷ []) b p
    → q ≡ option_map (λ d. stable d.bytes) p → Stages end item o q
stage_done end item None a b p q rest few some small reads x y z sync =
    let none : p ≡ None = puts_none (end + 5 + length item) (0 ∷ []) b p (puts_none (end + 5) item a b x y) z in
    sync ∙ ap (option_map (λ (d : DiskView). stable d.bytes)) none
stage_done end item (Some d) None b p q rest few some small reads x y z sync = absurd x
stage_done end item (Some d) (Some e) None p q rest few some small reads x y z sync = absurd y
stage_done end item (Some d) (Some e) (Some f) None q rest few some small reads x y z sync = absurd z
stage_done end item (Some d) (Some e) (Some f) (Some h) None rest few some small reads x y z sync = cc
stage_done end item (Some d) (Some e) (Some f) (Some h) (Some k) rest few some small reads x y z sync =
    let is : k ≡ stable h.bytes = cc in
    let staged : StagedAt end item (listed d.bytes) k = staged_by end (listed d.bytes) item d rest reads e.bytes f.bytes h.bytes k x y z is some small few in
    let same : listed k.bytes ≡ listed d.bytes = ap list_in (staged_list end item (listed d.bytes) k staged) in
    (subst (λ (l : List (List ℕ)). StagedAt end item l k) (sym same) staged, same)
