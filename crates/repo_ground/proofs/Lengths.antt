-- Lengths of items with kept projections.
use Rattle.std.proofs.Common.{◌≡◌, ◌+◌, ◌*◌, ◌<◌, ◌≤◌, ◌^◌, ℕ, true, le-leb, List, [], ◌∷◌, ◌++◌, filter, length, Option, Some, None, refl, arith, length-append}
use borrow.Author.Tests.{leb-true}
use Rattle.std.specs.Prelude.{nat_le}
use Rattle.std.specs.Cmp.{first_so, second_so}
use Rattle.std.specs.Int.{to_be_bytes, w16, w32}
use Rattle.std.specs.List.{flat_map, list_all}
use Rattle.git_objects.specs.Bodies.{is_name}
use Rattle.git_objects.specs.Lists.{Each}
use Rattle.git_objects.specs.Paths.{Bytes, is_bytes}
use Rattle.git_objects.specs.declared.limits.TheConstants.{COMMITS, ITEMS, ITEM_BYTES, OBJECTS, STORE_BYTES}
use Rattle.git_objects.specs.declared.quantity.Quantity.TheVariants as limits
use Rattle.object_store.specs.Fits.{is_commit}
use Rattle.object_store.specs.Objects.{Object}
use Rattle.commit_map.specs.Shown.{Entries, Shown}
use Rattle.state_items.specs.Appending.{is_result}
use Rattle.state_items.specs.Changes.{KeepPlan, Room, or_else, passed}
use Rattle.state_items.specs.Items.{Held, entry_text, has_room, kept_text, result_text}
use Rattle.std.proofs.lemmas.Bool.{eqb-true}

name-long : (n : Bytes) → is_name n ≡ true → length n ≡ 20
name-long n e = eqb-true (length n) 20 (second_so (is_bytes n) _ e)

result-short : (r : Option Shown) → is_result r ≡ true → length (result_text r) ≤ 41
result-short None e = omega arith
result-short (Some p) e =
    let a = name-long p.commit (first_so (is_name p.commit) (is_name p.tree) e) in
    let b = name-long p.tree (second_so (is_name p.commit) (is_name p.tree) e) in
    omega (arith, a, b, length-append p.commit p.tree)

-- 61 bytes are enough for an entry
entries-short : (es : Entries) → Each (λ e. is_name e.0 ≡ true) es → list_all (λ e. is_result e.1) es ≡ true → length (flat_map entry_text es) ≤ 61 * length es
entries-short [] h k = omega arith
entries-short (e ∷ es) h k =
    let later = entries-short es h.1 (second_so (is_result e.1) (list_all (λ e. is_result e.1) es) k) in
    let own = result-short e.1 (first_so (is_result e.1) (list_all (λ e. is_result e.1) es) k) in
    let name = name-long e.0 h.0 in
    omega (arith, later, own, name, length-append e.0 (result_text e.1), length-append (entry_text e) (flat_map entry_text es))

pub kept-short : (k : ℕ) (text : Bytes) (es : Entries) → Each (λ e. is_name e.0 ≡ true) es → list_all (λ e. is_result e.1) es ≡ true → length (kept_text k text es) ≤ 9 + length text + 61 * length es
unfolding kept_text
kept-short k text es h n =
    let a = to_be_bytes w16 (length text) in
    let b = to_be_bytes w32 (length es) in
    let d = flat_map entry_text es in
    let x : length a ≡ 2 = refl in
    let y : length b ≡ 4 = refl in
    omega (arith, entries-short es h n, x, y, length-append (a ++ text ++ b) d, length-append (a ++ text) b, length-append a text)

-- ---- limits

pub few-commits : (H : List Object) → has_room H ≡ true → length (filter is_commit H) ≤ 2 ^ 20
few-commits H r = leb-true (length (filter is_commit H)) COMMITS (second_so (nat_le (length H) OBJECTS) (nat_le (length (filter is_commit H)) COMMITS) r)

-- an item of few entries passes no limit
pub none-passed : (h : Held) (room : Room) (k : ℕ) (text : Bytes) (es : Entries) → has_room h.objects ≡ true → length (kept_text k text es) ≤ 2 ^ 29 → room.number < 2 ^ 20
    → room.size + length (kept_text k text es) ≤ 2 ^ 31 → passed h room (KeepPlan k text es) ≡ None
none-passed h room k text es r short number size =
    let commits = second_so (nat_le (length h.objects) OBJECTS) (nat_le (length (filter is_commit h.objects)) COMMITS) r in
    let objects = first_so (nat_le (length h.objects) OBJECTS) (nat_le (length (filter is_commit h.objects)) COMMITS) r in
    let item = le-leb (length (kept_text k text es)) ITEM_BYTES short in
    let items = le-leb (room.number + 1) ITEMS (omega (arith, number)) in
    let store = le-leb (room.size + length (kept_text k text es)) STORE_BYTES size in
    λ i. or_else (commits i) limits.Commits (or_else (objects i) limits.Objects (or_else (item i) limits.Item (or_else (items i) limits.Items (or_else (store i) limits.Store None))))
