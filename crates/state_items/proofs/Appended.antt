-- An addition that passes no limit is read back behind the items.
use Rattle.std.proofs.Common.{◌≡◌, ◌+◌, ◌≤◌, ◌^◌, ℕ, Bool, true, false, ◌&&◌, List, [], ◌∷◌, ◌++◌, filter, length, reverse, Option, None, Some, Ok, refl, sym, ap, ◌∙◌, arith, length-append, sum_by}
use borrow.Author.Tests.{leb-true}
use Rattle.std.specs.Prelude.{nat_le}
use Rattle.std.specs.Int.{to_be_bytes, w16, w32}
use Rattle.std.specs.List.{flat_map}
use Rattle.std.proofs.lemmas.Bool.{lt-ltb}
use Rattle.std.proofs.lemmas.List.Sums.{sum_by-cons}
use Rattle.git_objects.specs.Paths.{Bytes}
use Rattle.git_objects.specs.Snapshots.{Snapshot}
use Rattle.git_objects.specs.declared.quantity.Quantity.{Quantity}
use Rattle.git_objects.specs.declared.quantity.Quantity.TheVariants.{Commits, Objects, Item as ItemLimit, Items as ItemsLimit, Store}
use Rattle.object_store.specs.Objects.{Object}
use Rattle.state_items.specs.Fields.{BrokenAt}
use Rattle.state_items.specs.Items.{has_room, item_fits, change_text, Held, entry_text, kept_text, nothing, read_from, read_item, read_items, read_one, result_text, rule_text, tagged_change_text}
use Rattle.object_store.specs.Fits.{is_commit}
use Rattle.state_items.proofs.Lengths.{item-long, objects-long}
use Rattle.git_objects.specs.Results.{must, refused_by}
use Rattle.commit_map.specs.Shown.{Shown}
use Rattle.state_items.specs.Changes.{ChangePlan, KeepPlan, NoPlan, Plan, RulePlan, TagPlan, held_after, or_else, passed, passed_by_item, passed_by_objects, plan_items, room_of}
use Rattle.state_items.specs.Appending.{AppendLaw, IsAddition}
use Rattle.state_items.specs.Repos.{IsKept}
use Rattle.state_items.proofs.Additions.{are-set, are-taken}
use Rattle.state_items.proofs.ItemReads.{change-read, kept-read, rule-read}
use Rattle.state_items.proofs.ReadFields.{then-ok}
use Rattle.state_items.proofs.ReadObjects.{value-of}
use Rattle.state_items.proofs.TagFields.{tagged_long, tagged_read, tags_set}

-- ---- one item more

-- what follows an item that is read
one-read : (number size : ℕ) (h m : Held) (item : Bytes) → item_fits number size item ≡ true → read_item h item ≡ Ok m → read_one number size h item ≡ Ok m
one-read number size h m item f r =
    then-ok (must (number, BrokenAt 0) (item_fits number size item)) (λ _. refused_by (λ f. (number, f)) (read_item h item)) tt (ap (must (number, BrokenAt 0)) f)
    ∙ ap (refused_by (λ f. (number, f))) r

read-behind : (items : List Bytes) (number size : ℕ) (h g k : Held) (item : Bytes) → read_from number size h items ≡ Ok g → item_fits (number + length items) (size + sum_by length items) item ≡ true →
    read_item g item ≡ Ok k → read_from number size h (items ++ item ∷ []) ≡ Ok k
read-behind [] number size h g k item e f r =
    let same : h ≡ g = cc in
    let n : number + 0 ≡ number = omega arith in
    let z : size + 0 ≡ size = omega arith in
    then-ok (read_one number size h item) (λ after. read_from (number + 1) (size + length item) after []) k
    (one-read number size h k item ((λ i. item_fits (sym n i) (sym z i) item) ∙ f) (ap (λ (j : Held). read_item j item) same ∙ r))
read-behind (x ∷ items) number size h g k item e f r =
    let d = value-of (read_one number size h x) (λ after. read_from (number + 1) (size + length x) after items) g e in
    let n : number + length (x ∷ items) ≡ (number + 1) + length items = omega arith in
    let z : size + sum_by length (x ∷ items) ≡ (size + length x) + sum_by length items = omega (arith, sum_by-cons length x items) in
    then-ok (read_one number size h x) (λ after. read_from (number + 1) (size + length x) after (items ++ item ∷ [])) d.value d.was
    ∙ read-behind items (number + 1) (size + length x) d.value g k item d.rest ((λ i. item_fits (sym n i) (sym z i) item) ∙ f) r

pub item-behind : (items : List Bytes) (h k : Held) (item : Bytes) → read_items items ≡ Ok h → item_fits (length items) (sum_by length items) item ≡ true → read_item h item ≡ Ok k →
    read_items (items ++ item ∷ []) ≡ Ok k
unfolding read_items
item-behind items h k item e f r =
    let n : 0 + length items ≡ length items = omega arith in
    let z : 0 + sum_by length items ≡ sum_by length items = omega arith in
    read-behind items 0 0 nothing h k item e ((λ i. item_fits (n i) (z i) item) ∙ f) r

-- ---- limits

-- no limit is passed
passes : (b : Bool) (q : Quantity) (later : Option Quantity) → or_else b q later ≡ None → (b ≡ true) × (later ≡ None)
passes true q later h = (refl, h)
passes false q later h = let no : Some q ≡ None = h in cc

-- what a plan's item keeps to, where it passes no limit
pub record Passes (items : List Bytes) (S : List Object) (item : Bytes) : Type 0 where
  pub room : has_room S ≡ true
  pub fits : item_fits (length items) (sum_by length items) item ≡ true
  pub small : length item ≤ 2 ^ 29

pub passes-all : (items : List Bytes) (S : List Object) (item : Bytes) → passed_by_objects S (passed_by_item (room_of items) item) ≡ None → Passes items S item
passes-all items S item e =
    let one = passes (nat_le (length (filter is_commit S)) (2 ^ 20)) Commits _ e in
    let two = passes (nat_le (length S) (2 ^ 22)) Objects _ one.1 in
    let three = passes (nat_le (length item) (2 ^ 29)) ItemLimit _ two.1 in
    let four = passes (nat_le (length items + 1) (2 ^ 20)) ItemsLimit _ three.1 in
    let five = passes (nat_le (sum_by length items + length item) (2 ^ 31)) Store None four.1 in
    let many = leb-true (length items + 1) (2 ^ 20) four.0 in
    record {
      room = λ i. two.0 i && one.0 i;
      fits = λ i. lt-ltb (length items) (2 ^ 20) (omega (arith, many)) i && three.0 i && five.0 i;
      small = leb-true (length item) (2 ^ 29) three.0;
    }

-- ---- kept projections

entries-long : (es : List (Bytes × Option Shown)) → length es ≤ length (flat_map entry_text es)
entries-long [] = omega arith
entries-long (e ∷ es) =
    omega (arith, entries-long es, length-append (entry_text e) (flat_map entry_text es), length-append e.0 (result_text e.1), result-some e.1)
  where
    result-some : (r : Option Shown) → 1 ≤ length (result_text r)
    result-some None = omega arith
    result-some (Some p) = omega arith

kept-long : (k : ℕ) (text : Bytes) (es : List (Bytes × Option Shown)) → length es ≤ length (kept_text k text es)
unfolding kept_text
kept-long k text es =
    let n = to_be_bytes w16 (length text) in
    let m = to_be_bytes w32 (length es) in
    let r = flat_map entry_text es in
    omega (arith, entries-long es, length-append (n ++ text ++ m) r)

-- ---- the law

items-nothing : (items : List Bytes) → items ++ [] ≡ items
items-nothing [] = refl
items-nothing (x ∷ items) = ap (λ (t : List Bytes). x ∷ t) (items-nothing items)

pub appended : (items : List Bytes) (h : Held) (p : Plan) → read_items items ≡ Ok h → IsAddition h p → passed h (room_of items) p ≡ None →
    read_items (items ++ plan_items p) ≡ Ok (held_after h p)
appended items h NoPlan e a f = ap (read_items) (items-nothing items) ∙ e
appended items h (ChangePlan os rs) e a f =
    let q = passes-all items (reverse os ++ h.objects) (change_text os rs) f in
    let small = q.small in
    let some = item-long os rs in
    let long = objects-long os rs in
    item-behind items h (held_after h (ChangePlan os rs)) (change_text os rs) e q.fits
    (change-read h os rs (are-taken os h.objects a.0 q.room (omega (arith, small, long))) (are-set (reverse os ++ h.objects) None rs a.1) (omega (arith, small, some)) (omega (arith, small, some)))
appended items h (RulePlan k) e a f =
    let q = passes-all items h.objects (rule_text k) f in
    item-behind items h (held_after h (RulePlan k)) (rule_text k) e q.fits (rule-read h k a)
appended items h (KeepPlan k text es) e a f =
    let q = passes-all items h.objects (kept_text k text es) f in
    let small = q.small in
    let some = kept-long k text es in
    item-behind items h (held_after h (KeepPlan k text es)) (kept_text k text es) e q.fits
    (kept-read h k text es a.0 a.1 a.2 (omega (arith, small, some)) a.3)
appended items h (TagPlan os rs ts) e a f =
    let q = passes-all items (reverse os ++ h.objects) (tagged_change_text os rs ts) f in
    let small = q.small in
    let long = tagged_long os rs ts in
    let some = long.all in
    let many = long.objects in
    let more = long.tags in
    item-behind items h (held_after h (TagPlan os rs ts)) (tagged_change_text os rs ts) e q.fits
    (tagged_read h os rs ts (are-taken os h.objects a.0 q.room (omega (arith, small, many))) (are-set (reverse os ++ h.objects) None rs a.1)
    (tags_set (reverse os ++ h.objects) None ts a.2 (omega (arith, small, more))) (omega (arith, small, some)) (omega (arith, small, some)) (omega (arith, small, some)))

pub nothing-kept : (project : ℕ → Bytes → List Snapshot → Bytes → Option Shown) → IsKept project [] nothing
unfolding read_items
nothing-kept project = record { spelled = refl; objects = refl; entries = λ k d lt. absurd (omega (arith, lt)) }

pub append-law : AppendLaw
append-law = record { read_back = appended; none = nothing-kept }
