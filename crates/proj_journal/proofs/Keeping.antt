-- What the calls of a journal say, from what its disk's say.
use Rattle.std.specs.Prelude.{◌≡◌, ◌<◌, ◌≤◌, ◌+◌, ◌-◌, ◌^◌, ◌++◌, [], ◌∷◌, ℕ, List, length, take, drop, min, Some, None, ⊤, Ok, Err, Result, MatchResult, IfSome, IfOk}
use Rattle.std.proofs.Common.{zero, suc, refl, sym, ap, ◌∙◌, subst, arith, inl, inr, ⊎_elim, length-append, append_assoc, get_or}
use Rattle.std.proofs.lemmas.List.{take_at, drop_at, take_all, take-take, drop-take, drop-drop, length-take, length-drop}
use Rattle.std.proofs.lemmas.Bool.{cases_lt}
use Rattle.std.specs.declared.option.Option.{Option}
use Rattle.std.specs.Int.{w32, to_be_bytes}
use Rattle.proj_io.specs.Items.{item_of}
use Rattle.proj_io.specs.Stops.{OnlyAdds, IsBeforeOrAfter}
use Rattle.proj_disk.specs.Disks.{DiskView, IsImage, put}
use Rattle.proj_journal.specs.declared.place.Place.{Place}
use Rattle.proj_journal.specs.Spelling.{header, record_of, records_of, listed, spelled, placed}
use Rattle.proj_journal.specs.Spelled.{length-record}
use Rattle.proj_journal.specs.Rest.{StandsAt, Leaves, SpellsOneMore, AddsItem, GetsRecord, Puts, record_and_gate}
use Rattle.proj_journal.specs.Resting.{whole}
use Rattle.proj_journal.specs.Journals.{AllFit, ListsLeft, StandsIn, items_of, number_of, place_at}

pub length-placed : (place : ℕ) (items : List (List ℕ)) → length (placed place items) ≡ length items
length-placed place [] = refl
length-placed place (item ∷ items) = ap suc (length-placed (place + (5 + length item)) items)

-- so many places are held as there are items
pub number_is : (o : Option DiskView) (end : ℕ) (places : List Place) → StandsIn o end places → number_of o places ≡ length places
number_is None end places stands = refl
number_is (Some disk) end places stands = sym (ap length stands.1 ∙ length-placed 8 (listed disk.bytes))

pub size_placed : (place : ℕ) (items : List (List ℕ)) (k : ℕ) → (place_at (placed place items) k).size ≡ length (item_of items k)
size_placed place [] k = refl
size_placed place (item ∷ items) zero = refl
size_placed place (item ∷ items) (suc k) = size_placed (place + (5 + length item)) items k

pub place_past : (places : List Place) (k : ℕ) → length places ≤ k → place_at places k ≡ record { at = 0; size = 0 }
place_past [] k le = refl
place_past (place ∷ places) zero le = absurd (omega arith)
place_past (place ∷ places) (suc k) le = place_past places k (omega arith)

pub place_within : (places : List Place) (k : ℕ) (place : Place) → k < length places → place ≡ get_or places k place → place ≡ place_at places k
place_within [] k place lt is = absurd (omega arith)
place_within (p ∷ places) zero place lt is = is
place_within (p ∷ places) (suc k) place lt is = place_within places k place (omega arith) is

pub fits_at : (places : List Place) (k : ℕ) → AllFit places → (place_at places k).at + (place_at places k).size ≤ 2 ^ 50
fits_at [] k fit = omega arith
fits_at (place ∷ places) zero fit = fit.1
fits_at (place ∷ places) (suc k) fit = fits_at places k fit.2

-- the bytes in an item's place are the item's
module _ (rest : List ℕ) where
  first_read : (front item : List ℕ) (items : List (List ℕ)) → take (length item) (drop (length front + 5) (front ++ (records_of (item ∷ items) ++ rest))) ≡ item
  unfolding records_of record_of
  first_read front item items =
      let tb = to_be_bytes w32 (length item) in
      let more = records_of items ++ rest in
      let five : length (front ++ (1 ∷ tb)) ≡ length front + 5 = omega (arith, length-append front (1 ∷ tb)) in
      let split : front ++ (records_of (item ∷ items) ++ rest) ≡ (front ++ (1 ∷ tb)) ++ (item ++ more) =
      ap (λ (l : List ℕ). front ++ l) (append_assoc (record_of item) (records_of items) rest ∙ ap (λ (l : List ℕ). 1 ∷ l) (append_assoc tb item more))
      ∙ sym (append_assoc front (1 ∷ tb) (item ++ more)) in
      ap (λ (l : List ℕ). take (length item) (drop (length front + 5) l)) split
      ∙ ap (λ (l : List ℕ). take (length item) l) (drop_at (front ++ (1 ∷ tb)) (item ++ more) (length front + 5) five)
      ∙ take_at item more (length item) refl

  next_front : (front item : List ℕ) (items : List (List ℕ)) → front ++ (records_of (item ∷ items) ++ rest) ≡ (front ++ record_of item) ++ (records_of items ++ rest)
  unfolding records_of
  next_front front item items = ap (λ (l : List ℕ). front ++ l) (append_assoc (record_of item) (records_of items) rest) ∙ sym (append_assoc front (record_of item) (records_of items ++ rest))

  pub reads_item : (front : List ℕ) (items : List (List ℕ)) (place k : ℕ) → place ≡ length front
      → take (place_at (placed place items) k).size (drop (place_at (placed place items) k).at (front ++ (records_of items ++ rest))) ≡ item_of items k
  reads_item front [] place k is = refl
  reads_item front (item ∷ items) place zero is = ap (λ (n : ℕ). take (length item) (drop (n + 5) (front ++ (records_of (item ∷ items) ++ rest)))) is ∙ first_read front item items
  reads_item front (item ∷ items) place (suc k) is =
      let next = place + (5 + length item) in
      let long : next ≡ length (front ++ record_of item) = omega (arith, is, length-record item, length-append front (record_of item)) in
      let spot = place_at (placed next items) k in
      ap (λ (l : List ℕ). take spot.size (drop spot.at l)) (next_front front item items) ∙ reads_item (front ++ record_of item) items next k long

-- as many as a room takes of the first so many
pub take_room : (n room m : ℕ) (ys : List ℕ) → n ≡ min room m → take n ys ≡ take room (take m ys)
take_room n room m ys is = elim (cases_lt room m) [
  | inl below ↦ let same : n ≡ room = omega arith in ap (λ (k : ℕ). take k ys) same ∙ sym (take-take room m ys (omega (arith, below)))
  | inr above ↦ let same : n ≡ m = omega arith in ap (λ (k : ℕ). take k ys) same ∙ sym (take_all room (take m ys) (omega (arith, above, length-take m ys)))
]

-- a part of an item is read where it stands
pub part_of : (bytes item : List ℕ) (at size from room count : ℕ) → take size (drop at bytes) ≡ item → from < size → count ≡ min room (size - from)
    → take count (drop (at + from) bytes) ≡ take room (drop from item)
part_of bytes item at size from room count is lt counts =
    let body = drop at bytes in
    let rest = size - from in
    let whole : from + rest ≡ size = omega arith in
    let tail : drop from item ≡ take rest (drop from body) =
    ap (λ (l : List ℕ). drop from l) (sym is ∙ ap (λ (n : ℕ). take n body) (sym whole)) ∙ drop-take from rest body in
    let here : drop (at + from) bytes ≡ drop from body = sym (drop-drop from at bytes) in
    ap (λ (l : List ℕ). take count l) here ∙ take_room count room rest (drop from body) counts ∙ ap (λ (l : List ℕ). take room l) (sym tail)

nothing_left : (item : List ℕ) (from room : ℕ) → min room (length item - from) ≡ 0 → [] ≡ take room (drop from item)
nothing_left item from room none = sym (no_length (take room (drop from item)) (omega (arith, length-take room (drop from item), length-drop from item)))
  where
    no_length : (l : List ℕ) → length l ≡ 0 → l ≡ []
    no_length [] is = refl
    no_length (x ∷ l) is = absurd (omega arith)

pub size_known : (o : Option DiskView) (end : ℕ) (places : List Place) (k : ℕ) (place : Place) → StandsIn o end places → place ≡ place_at places k
    → IfSome (items_of o) (λ all. place.size ≡ length (item_of all k))
size_known None end places k place stands is = tt
size_known (Some disk) end places k place stands is =
    ap (λ (p : Place). p.size) is ∙ ap (λ (l : List Place). (place_at l k).size) stands.1 ∙ size_placed 8 (listed disk.bytes) k

pub none_read : (o : Option DiskView) (end : ℕ) (places : List Place) (k : ℕ) (place : Place) (from room : ℕ) → StandsIn o end places → place ≡ place_at places k → min room (place.size - from) ≡ 0
    → IfSome (items_of o) (λ all. [] ≡ take room (drop from (item_of all k)))
none_read None end places k place from room stands is none = tt
none_read (Some disk) end places k place from room stands is none =
    let size = size_known (Some disk) end places k place stands is in
    nothing_left (item_of (listed disk.bytes) k) from room (ap (λ (n : ℕ). min room (n - from)) (sym size) ∙ none)

pub part_read : (o : Option DiskView) (end : ℕ) (places : List Place) (k : ℕ) (place : Place) (from room count : ℕ) (taken : List ℕ) → StandsIn o end places → IfSome o (λ d. IsImage d d.bytes)
    → place ≡ place_at places k → count ≡ min room (place.size - from) → 0 < count → IfSome o (λ d. taken ≡ take count (drop (place.at + from) d.bytes))
    → IfSome (items_of o) (λ all. taken ≡ take room (drop from (item_of all k)))
part_read None end places k place from room count taken stands reads is counts some read = tt
part_read (Some disk) end places k place from room count taken stands reads is counts some read =
    let items = listed disk.bytes in
    let rest = stands.0.gate ∷ drop (end + 1) disk.bytes in
    let spot : place ≡ place_at (placed 8 items) k = is ∙ ap (λ (l : List Place). place_at l k) stands.1 in
    let here : take place.size (drop place.at disk.bytes) ≡ item_of items k =
    (λ i. take (spot i).size (drop (spot i).at (whole end items disk stands.0 disk.bytes reads i))) ∙ reads_item rest header items 8 k refl in
    read ∙ part_of disk.bytes (item_of items k) place.at place.size from room count here (omega arith) counts

pub placed-push : (place : ℕ) (items : List (List ℕ)) (item : List ℕ) → placed place (items ++ item ∷ []) ≡ placed place items ++ record { at = place + length (records_of items) + 5; size = length item } ∷ []
unfolding records_of
placed-push place [] item = let same : place + 5 ≡ place + 0 + 5 = omega arith in ap (λ (n : ℕ). record { at = n; size = length item } ∷ []) same
placed-push place (x ∷ items) item =
    let same : place + (5 + length x) + length (records_of items) + 5 ≡ place + length (record_of x ++ records_of items) + 5 = omega (arith, length-record x, length-append (record_of x) (records_of items)) in
    ap (λ (l : List Place). record { at = place + 5; size = length x } ∷ l)
    (placed-push (place + (5 + length x)) items item ∙ ap (λ (n : ℕ). placed (place + (5 + length x)) items ++ record { at = n; size = length item } ∷ []) same)

pub fit-push : (places : List Place) (place : Place) → AllFit places → place.size ≤ 2 ^ 29 → place.at + place.size ≤ 2 ^ 50 → AllFit (places ++ place ∷ [])
fit-push [] place fit small low = (small, low, tt)
fit-push (p ∷ places) place fit small low = (fit.0, fit.1, fit-push places place fit.2 small low)

-- the places after an append
told_added : (end : ℕ) (item : List ℕ) (o p : Option DiskView) (places now : List Place) → StandsIn o end places → AddsItem end item o p
    → now ≡ places ++ record { at = end + 5; size = length item } ∷ [] → StandsIn p (end + (5 + length item)) now
told_added end item None p places now stands adds is = subst (λ (v : Option DiskView). StandsIn v (end + (5 + length item)) now) (sym adds) tt
told_added end item (Some d) None places now stands adds is = absurd adds
told_added end item (Some d) (Some e) places now stands adds is =
    let items = listed d.bytes in
    let far : end + 5 + length item ≡ end + (5 + length item) = omega arith in
    let at : end + 5 ≡ 8 + length (records_of items) + 5 = omega (arith, stands.0.ends) in (
      subst (λ (n : ℕ). StandsAt n (listed e.bytes) e) far adds.0,
      is ∙ (λ i. stands.1 i ++ record { at = at i; size = length item } ∷ []) ∙ sym (placed-push 8 items item) ∙ ap (placed 8) (sym adds.1),
    )

-- the places after an append of an item whose size was worked out
pub told_sized : (end size : ℕ) (item : List ℕ) (o p : Option DiskView) (places now : List Place) → size ≡ length item → StandsIn o end places → AddsItem end item o p
    → now ≡ places ++ record { at = end + 5; size = size } ∷ [] → StandsIn p (end + (5 + size)) now
told_sized end size item o p places now long stands adds is =
    subst (λ (n : ℕ). StandsIn p (end + (5 + n)) now) (sym long)
    (told_added end item o p places now stands adds (is ∙ ap (λ (n : ℕ). places ++ record { at = end + 5; size = n } ∷ []) long))

-- what is added to the images is added to the lists
pub lists_add : (before now : ℕ) (past since : ℕ → List ℕ → Type 0) (Kind : List ℕ → Type 0) (Lists : List (List ℕ) → Type 0)
    → ((image : List ℕ) (list : List (List ℕ)) → Kind image → Leaves image list → Lists list)
    → OnlyAdds before now past since Kind → OnlyAdds before now (ListsLeft past) (ListsLeft since) Lists
lists_add before now past since Kind Lists kind adds = record {
  later = adds.later;
  each = λ t list le left. ⊎_elim (λ was. inl (left.0, was, left.2)) (λ new. inr (kind left.0 list new left.2)) (adds.each t left.0 le left.1);
}

pub leaves_one_more : (item : List ℕ) (o : Option DiskView) (image : List ℕ) (list : List (List ℕ)) → SpellsOneMore item o image → Leaves image list → IsBeforeOrAfter (items_of o) item list
leaves_one_more item None image list is leaves = tt
leaves_one_more item (Some disk) image list is leaves =
    ⊎_elim (λ old. inl (spells_list old)) (λ new. inr (spells_list new)) is
  where
    spells_list : {items : List (List ℕ)} → spelled image ≡ Ok items → list ≡ items
    spells_list {items} is = sym (subst (λ (r : Result (List (List ℕ)) ℕ). MatchResult r (λ items. items ≡ list) (λ _. ⊤)) is leaves)

pub if_ok : {T E : Type 0} (P Q : T → Type 0) (result : Result T E) → ((x : T) → P x → Q x) → IfOk result P → IfOk result Q
if_ok P Q (Ok x) to is = to x is
if_ok P Q (Err e) to is = tt

pub all_ok : {T E : Type 0} (Q : T → Type 0) (result : Result T E) → ((x : T) → Q x) → IfOk result Q
all_ok Q (Ok x) is = is x
all_ok Q (Err e) is = tt

-- a record that is put where the list ended
pub record_got : (o p : Option DiskView) (end : ℕ) (places : List Place) (item : List ℕ) → StandsIn o end places → Puts end (record_and_gate item) o p → GetsRecord item o p
record_got None p end places item stands puts = puts
record_got (Some d) None end places item stands puts = puts
record_got (Some d) (Some e) end places item stands puts = puts ∙ ap (λ (n : ℕ). put n (record_and_gate item) d.bytes) stands.0.ends
