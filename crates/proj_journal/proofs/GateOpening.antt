-- The gate before a staged record, as it is opened.
use Rattle.std.proofs.Common.{◌≡◌, ◌<◌, ◌≤◌, ◌⊎◌, inl, inr, ⊎_elim, ◌+◌, ◌-◌, ◌++◌, [], ◌∷◌, ℕ, zero, suc, List, length, take, drop, Result, Ok, Err, Some, None, refl, sym, ◌∙◌, ap, subst, arith, length-append, append_assoc, get_or}
use Rattle.std.proofs.lemmas.List.{ext_get_or, get_or-take, take_at, drop_at, length-take, length-drop}
use Rattle.std.proofs.lemmas.Bool.{cases_eq}
use Rattle.std.specs.declared.option.Option.{Option}
use Rattle.std.specs.Int.{w32, to_be_bytes}
use Rattle.std.specs.Prelude.{OnOk, IsErrOf, IfSome}
use Rattle.std.specs.Option.{option_map}
use Rattle.std.proofs.lemmas.List.{places}
use Rattle.proj_io.specs.declared.source.SinkError.{SinkError}
use Rattle.proj_io.specs.declared.source.SinkError.TheVariants.{Failed, OutOfMemory}
use Rattle.proj_disk.specs.Disks.{DiskView, IsImage, IsLeftBy, IsOutside, IsTornIfKnown, furthest, put, stable, written, widened}
use Rattle.proj_journal.specs.Spelling.{header, records_of, spelled, listed, list_in}
use Rattle.proj_journal.specs.Rest.{AllBehind, StandsAt, StagedAt, IfKnown, IsStaged, SpellsSame, SpellsOneMore, AddsItem, MayAddItem}
use Rattle.proj_journal.specs.Spelled.{spelled-list, records_with, are-push, length-records_push}
use Rattle.proj_journal.specs.Resting.{spells}
use Rattle.proj_journal.proofs.Staging.{staged_stands}

get_or-drop : (n : ℕ) (l : List ℕ) (i : ℕ) → get_or (drop n l) i 0 ≡ get_or l (n + i) 0
get_or-drop n l i = grind (arith, places)

-- a list is what stands before a place, at it and behind it
split_at : (l : List ℕ) (n : ℕ) → n < length l → l ≡ take n l ++ (get_or l n 0 ∷ drop (n + 1) l)
split_at [] n lt = absurd (omega arith)
split_at (x ∷ l) zero lt = refl
split_at (x ∷ l) (suc n) lt = ap (λ (r : List ℕ). x ∷ r) (split_at l n (omega arith)) ∙ ap (λ (k : ℕ). x ∷ (take n l ++ (get_or l n 0 ∷ drop k (x ∷ l)))) more
  where
    more : suc (n + 1) ≡ suc n + 1
    more = omega arith

-- the one byte of a range may be any, and all else stays
one_byte : (disk : DiskView) (end : ℕ) (image : List ℕ) → disk ≡ stable disk.bytes → end < length disk.bytes → IsImage (widened end 1 disk) image
    → image ≡ take end disk.bytes ++ (get_or image end 0 ∷ drop (end + 1) disk.bytes)
one_byte disk end image settled lt is =
    let synced : disk.synced ≡ disk.bytes = ap (λ (d : DiskView). d.synced) settled in
    let ranges : disk.ranges ≡ [] = ap (λ (d : DiskView). d.ranges) settled in
    let far : furthest (length disk.synced) disk.ranges ≡ length disk.synced = ap (λ (r : List (ℕ × ℕ)). furthest (length disk.synced) r) ranges in
    let same_long : length disk.synced ≡ length disk.bytes = ap length synced in
    let long : length image ≡ length disk.bytes = omega (arith, is.no_shorter, is.no_longer, same_long, far) in
    let same : (i : ℕ) → i < length disk.bytes → (i < end) ⊎ (end + 1 ≤ i) → get_or image i 0 ≡ get_or disk.bytes i 0 = λ i within out.
    is.same i (omega (arith, within, same_long)) (out, subst (λ (r : List (ℕ × ℕ)). IsOutside r i) (sym ranges) tt) ∙ ap (λ (l : List ℕ). get_or l i 0) synced in
    let front_long : length (take end image) ≡ end = omega (arith, length-take end image, long) in
    let front : take end image ≡ take end disk.bytes = ext_get_or 0 (take end image) (take end disk.bytes) (omega (arith, front_long, length-take end disk.bytes)) (λ i lt_i.
    let below : i < end = omega (arith, lt_i, front_long) in
    get_or-take end image i 0 below ∙ same i (omega arith) (inl below) ∙ sym (get_or-take end disk.bytes i 0 below)) in
    let back_long : length (drop (end + 1) image) ≡ length image - (end + 1) = length-drop (end + 1) image in
    let back : drop (end + 1) image ≡ drop (end + 1) disk.bytes = ext_get_or 0 (drop (end + 1) image) (drop (end + 1) disk.bytes) (omega (arith, back_long, long, length-drop (end + 1) disk.bytes)) (λ i lt_i.
    let within : end + 1 + i < length disk.bytes = omega (arith, lt_i, back_long, long) in
    let past : end + 1 ≤ end + 1 + i = omega arith in
    get_or-drop (end + 1) image i ∙ same (end + 1 + i) within (inr past) ∙ sym (get_or-drop (end + 1) disk.bytes i)) in
    split_at image end (omega (arith, long, lt)) ∙ (λ k. front k ++ (get_or image end 0 ∷ back k))

module _ (end : ℕ) (item : List ℕ) (items : List (List ℕ)) (disk : DiskView) (staged : StagedAt end item items disk) where
  abbrev behind_gate : List ℕ
  behind_gate = to_be_bytes w32 (length item) ++ (item ++ (0 ∷ staged.rest))

  before_gate : List ℕ
  before_gate = header ++ records_of items

  long_before : length (header ++ records_of items) ≡ end
  long_before = omega (arith, staged.ends, length-append header (records_of items))

  split : disk.bytes ≡ (header ++ records_of items) ++ (staged.gate ∷ behind_gate)
  split = staged.bytes ∙ sym (append_assoc header (records_of items) (staged.gate ∷ behind_gate))

  take_before : take end disk.bytes ≡ header ++ records_of items
  take_before = ap (λ (l : List ℕ). take end l) split ∙ take_at (header ++ records_of items) (staged.gate ∷ behind_gate) end long_before

  drop_behind : drop (end + 1) disk.bytes ≡ behind_gate
  drop_behind =
      ap (λ (l : List ℕ). drop (end + 1) l) (split ∙ sym (append_assoc (header ++ records_of items) (staged.gate ∷ []) behind_gate))
      ∙ drop_at ((header ++ records_of items) ++ staged.gate ∷ []) behind_gate (end + 1) (omega (arith, long_before, length-append (header ++ records_of items) (staged.gate ∷ [])))

  pub gate_within : end < length disk.bytes
  gate_within = omega (arith, long_before, ap length split, length-append (header ++ records_of items) (staged.gate ∷ behind_gate))

  -- whatever gate stands there, the list is the one before or has the item
  any_gate : (gate : ℕ) (image : List ℕ) → image ≡ (header ++ records_of items) ++ (gate ∷ behind_gate) → (spelled image ≡ Ok items) ⊎ (spelled image ≡ Ok (items ++ item ∷ []))
  any_gate gate image is =
      let whole : image ≡ header ++ (records_of items ++ (gate ∷ behind_gate)) = is ∙ append_assoc header (records_of items) (gate ∷ behind_gate) in
      elim (cases_eq gate 1) [
        | inl one ↦ inr (ap spelled (whole ∙ (λ i. header ++ (records_of items ++ (one i ∷ behind_gate))) ∙ ap (λ (l : List ℕ). header ++ l) (records_with items item (0 ∷ staged.rest)))
            ∙ spelled-list (items ++ item ∷ []) 0 staged.rest (are-push items item staged.sized staged.some staged.small) (omega (arith, staged.few, length-append items (item ∷ []))) (omega arith))
        | inr shut ↦ inl (ap spelled whole ∙ spelled-list items gate behind_gate staged.sized (omega (arith, staged.few)) shut)
      ]

  pub gate_spells : (image : List ℕ) → IsImage (widened end 1 disk) image → (spelled image ≡ Ok items) ⊎ (spelled image ≡ Ok (items ++ item ∷ []))
  gate_spells image is =
      any_gate (get_or image end 0) image (one_byte disk end image staged.settled gate_within is ∙ (λ i. take_before i ++ (get_or image end 0 ∷ drop_behind i)))

  -- the gate opened and stable
  opened_bytes : put end (1 ∷ []) disk.bytes ≡ header ++ (records_of (items ++ item ∷ []) ++ (0 ∷ staged.rest))
  opened_bytes =
      (λ i. take_before i ++ (1 ∷ drop_behind i)) ∙ append_assoc header (records_of items) (1 ∷ behind_gate)
      ∙ ap (λ (l : List ℕ). header ++ l) (records_with items item (0 ∷ staged.rest))

  pub opened_stands : (now : DiskView) → now ≡ stable (put end (1 ∷ []) disk.bytes) → StandsAt (end + 5 + length item) (items ++ item ∷ []) now
  opened_stands now is =
      let next = end + 5 + length item in
      let ends : next ≡ 8 + length (records_of (items ++ item ∷ [])) = omega (arith, staged.ends, length-records_push items item) in
      let head : List ℕ = header ++ (records_of (items ++ item ∷ []) ++ 0 ∷ []) in
      let long : length head ≡ next + 1 = omega (arith, ends, length-append (records_of (items ++ item ∷ [])) (0 ∷ [])) in
      record {
        gate = 0;
        shut = omega arith;
        front = ap (λ (d : DiskView). take (next + 1) d.synced) is
            ∙ ap (λ (l : List ℕ). take (next + 1) l) (opened_bytes ∙ ap (λ (l : List ℕ). header ++ l) (sym (append_assoc (records_of (items ++ item ∷ [])) (0 ∷ []) staged.rest)))
            ∙ take_at head staged.rest (next + 1) long;
        ends = ends;
        sized = are-push items item staged.sized staged.some staged.small;
        few = omega (arith, staged.few, length-append items (item ∷ []));
        behind = subst (λ (d : DiskView). AllBehind (next + 1) d.ranges) (sym is) tt;
      }

as_widened : (at : ℕ) (piece : List ℕ) (disk : DiskView) (image : List ℕ) → IsImage (written at piece disk) image → IsImage (widened at (length piece) disk) image
as_widened at piece disk image is = record { no_shorter = is.no_shorter; no_longer = is.no_longer; same = is.same }

-- a write of the gate leaves images that spell the list without the item or with it
module _ (end : ℕ) (item : List ℕ) where
  abbrev open_gate_piece : List ℕ
  open_gate_piece = 1 ∷ []

  pub staged_same : (o p : Option DiskView) → IsStaged end item o → p ≡ o → (image : List ℕ) → IsLeftBy p image → SpellsSame o image
  staged_same None p staged is image left = tt
  staged_same (Some d) None staged is image left = absurd left
  staged_same (Some d) (Some e) staged is image left =
      let same : e ≡ d = cc in
      spells end (listed d.bytes) d (staged_stands end item (listed d.bytes) d staged) image (subst (λ (v : DiskView). IsImage v image) same left)

  staged_images : (o p : Option DiskView) → IsStaged end item o → p ≡ o → (image : List ℕ) → IsLeftBy p image → SpellsOneMore item o image
  staged_images None p staged is image left = tt
  staged_images (Some d) None staged is image left = absurd left
  staged_images (Some d) (Some e) staged is image left =
      let same : e ≡ d = cc in
      inl (spells end (listed d.bytes) d (staged_stands end item (listed d.bytes) d staged) image (subst (λ (v : DiskView). IsImage v image) same left))

  pub gate_images : (o p : Option DiskView) (result : Result (Unit {0}) SinkError) → IsStaged end item o
      → OnOk result (p ≡ option_map (written end (1 ∷ [])) o) → (IsErrOf result Failed → IsTornIfKnown end 1 o p) → (IsErrOf result OutOfMemory → p ≡ o)
      → (image : List ℕ) → IsLeftBy p image → SpellsOneMore item o image
  gate_images None p result staged ok failed memory image left = tt
  gate_images (Some d) None result staged ok failed memory image left = absurd left
  gate_images (Some d) (Some e) (Ok v) staged ok failed memory image left =
      let same : e ≡ written end (1 ∷ []) d = cc in
      gate_spells end item (listed d.bytes) d staged image (as_widened end (1 ∷ []) d image (subst (λ (v : DiskView). IsImage v image) same left))
  gate_images (Some d) (Some e) (Err Failed) staged ok failed memory image left =
      gate_spells end item (listed d.bytes) d staged image ((failed refl).images image left)
  gate_images (Some d) (Some e) (Err OutOfMemory) staged ok failed memory image left = staged_images (Some d) (Some e) staged (memory refl) image left

  -- what is known stays known
  pub gate_known : (o p : Option DiskView) (result : Result (Unit {0}) SinkError)
      → OnOk result (p ≡ option_map (written end (1 ∷ [])) o) → (IsErrOf result Failed → IsTornIfKnown end 1 o p) → (IsErrOf result OutOfMemory → p ≡ o)
      → IfKnown o p (λ d e. Unit {0})
  gate_known None p (Ok v) ok failed memory = ok
  gate_known None p (Err Failed) ok failed memory = failed refl
  gate_known None p (Err OutOfMemory) ok failed memory = memory refl
  gate_known (Some d) (Some e) result ok failed memory = tt
  gate_known (Some d) None (Ok v) ok failed memory = cc
  gate_known (Some d) None (Err Failed) ok failed memory = failed refl
  gate_known (Some d) None (Err OutOfMemory) ok failed memory = let is : None ≡ Some d = memory refl in cc

  -- the bytes as they read are such an image
  pub may_add : (o p : Option DiskView) → IfKnown o p (λ d e. Unit {0}) → IfSome p (λ d. IsImage d d.bytes) → ((image : List ℕ) → IsLeftBy p image → SpellsOneMore item o image) → MayAddItem item o p
  may_add None p stays reads images = stays
  may_add (Some d) None stays reads images = absurd stays
  may_add (Some d) (Some e) stays reads images = ⊎_elim (λ old. inl (ap list_in old)) (λ new. inr (ap list_in new)) (images e.bytes reads)

  pub may_add_on : (o p q : Option DiskView) → MayAddItem item o p → (q ≡ option_map (λ d. stable d.bytes) p) ⊎ (q ≡ p) → MayAddItem item o q
  may_add_on None p q may (inl is) = is ∙ ap (option_map (λ (d : DiskView). stable d.bytes)) may
  may_add_on None p q may (inr is) = is ∙ may
  may_add_on (Some d) None q may is = absurd may
  may_add_on (Some d) (Some e) None may (inl is) = cc
  may_add_on (Some d) (Some e) None may (inr is) = cc
  may_add_on (Some d) (Some e) (Some f) may (inl is) =
      let same : f ≡ stable e.bytes = cc in
      let list : listed f.bytes ≡ listed e.bytes = ap (λ (v : DiskView). listed v.bytes) same in
      ⊎_elim (λ old. inl (list ∙ old)) (λ new. inr (list ∙ new)) may
  may_add_on (Some d) (Some e) (Some f) may (inr is) =
      let same : f ≡ e = cc in
      let list : listed f.bytes ≡ listed e.bytes = ap (λ (v : DiskView). listed v.bytes) same in
      ⊎_elim (λ old. inl (list ∙ old)) (λ new. inr (list ∙ new)) may

  -- and once it is stable, the item is there
  pub gate_done : (o p q : Option DiskView) → IsStaged end item o → p ≡ option_map (written end (1 ∷ [])) o → q ≡ option_map (λ d. stable d.bytes) p → AddsItem end item o q
  gate_done None p q staged is sync = sync ∙ ap (option_map (λ (d : DiskView). stable d.bytes)) is
  gate_done (Some d) None q staged is sync = cc
  gate_done (Some d) (Some e) None staged is sync = cc
  gate_done (Some d) (Some e) (Some f) staged is sync =
      let wrote : e ≡ written end (1 ∷ []) d = cc in
      let made : f ≡ stable e.bytes = cc in
      let now : f ≡ stable (put end (1 ∷ []) d.bytes) = made ∙ ap (λ (v : DiskView). stable v.bytes) wrote in
      let stands = opened_stands end item (listed d.bytes) d staged f now in
      let reads : IsImage f f.bytes = subst (λ (v : DiskView). IsImage v v.bytes) (sym now) (record { no_shorter = omega arith; no_longer = omega arith; same = λ place lt out. refl }) in
      let list : listed f.bytes ≡ listed d.bytes ++ item ∷ [] = ap list_in (spells (end + 5 + length item) (listed d.bytes ++ item ∷ []) f stands f.bytes reads) in
      (subst (λ (l : List (List ℕ)). StandsAt (end + 5 + length item) l f) (sym list) stands, list)

  pub done_images : (o q : Option DiskView) → AddsItem end item o q → (image : List ℕ) → IsLeftBy q image → SpellsOneMore item o image
  done_images None q adds image left = tt
  done_images (Some d) None adds image left = absurd left
  done_images (Some d) (Some e) adds image left =
      inr (spells (end + 5 + length item) (listed e.bytes) e adds.0 image left ∙ ap Ok adds.1)
