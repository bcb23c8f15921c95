-- How many items a text has at most, and how large they are.
use Rattle.std.specs.Prelude.{◌≡◌, refl, ◌+◌, ◌-◌, ◌≤◌, ◌<◌, ℕ, zero, suc, Bool, true, false, not, cond, ◌&&◌, ⊤, List, [], ◌∷◌, ◌++◌, length, Option, Some, None, nat_le, sum_by}
use Rattle.std.specs.Option.{option_map, option_and_then}
use Rattle.std.proofs.Common.{arith, ap, subst}
use Rattle.std.proofs.lemmas.Bool.{and_parts, leb-true}
use Rattle.std.proofs.lemmas.List.Sums.{sum_by-cons}
use Rattle.std.proofs.lemmas.Option.{none-some, same_Some}
use Rattle.git_objects.specs.Lists.{Each}
use Rattle.git_objects.specs.Paths.{Bytes, Path, is_nil}
use Rattle.git_objects.specs.declared.limits.TheConstants.{FILTER_BYTES, FILTER_COMPONENTS, FILTER_PIECES, WORKSPACE_BYTES}
use Rattle.filter_text.specs.Filters.{Filter, Filters, nop, sub, onto, dir, file, exclude, join, chain, workspace, no_more, more, append, only, pieces, components, components_in, has_workspace}
use Rattle.filter_text.specs.Items.{Member, Item, ends_member, is_fit, item_of, items, items_of, kept_place, later_members, member_at, members, members_within, place, roomy_item}
use Rattle.filter_text.specs.Limits.{too_deep}
use Rattle.filter_text.specs.Reading.{linked, made}
use Rattle.filter_text.specs.Spelling.{SpellsEntry, entry, SpellsEntries, an_entry, entries, SpellsFile, no_entries, some_entries}
use Rattle.filter_text.specs.Texts.{Read, gap}
use Rattle.filter_text.proofs.FileGrammar.{file-spelled}

-- ---- a text has fewer members than it has bytes and one

abbrev Fewer : ℕ → Option (List Member) → Type 0
Fewer n None = ⊤
Fewer n (Some ms) = length ms < n

fewer-later : (n : ℕ) (m : Member) (b : Bool) (o : Option (List Member)) → Fewer n o → Fewer (suc n) (cond b (option_map (λ ms. m ∷ ms) o) None)
fewer-later n m true None h = tt
fewer-later n m true (Some ms) h = omega (arith, h)
fewer-later n m false o h = tt

fewer-of : (n : ℕ) (read : Bytes → Option (List Member)) → ((t : Bytes) → Fewer n (read t)) → (b : Bool) (o : Read Member) → Fewer (suc n) (cond b (Some []) (option_and_then (later_members read) o))
fewer-of n read h true o = omega arith
fewer-of n read h false None = tt
fewer-of n read h false (Some x) = fewer-later n x.0 (ends_member x.1) (read x.1) (h x.1)

fewer-within : (n : ℕ) (t : Bytes) → Fewer n (members_within n t)
fewer-within zero t = tt
fewer-within (suc n) t = fewer-of n (members_within n) (fewer-within n) (is_nil (gap t).1) (member_at (gap t).1)

fewer-members : (t : Bytes) → Fewer (length t + 1) (members t)
unfolding members
fewer-members t = fewer-within (length t + 1) t

-- ---- the place of a member has no more components than its filter

record IsShort (m : Member) : Type 0 where
  placed : (p : Path) → place m ≡ Some p → length p ≤ components m.filter

linked-components : (fs : Filters) → components_in fs ≤ components (linked fs)
linked-components no_more = omega arith
linked-components (more f no_more) = omega arith
linked-components (more f (more g fs)) = omega arith

behind-components : (fs : Filters) (p : Path) → length p ≤ components_in (append fs (only (onto p)))
behind-components no_more p = omega arith
behind-components (more f fs) p = omega (arith, behind-components fs p)

target-components : (p : Path) (fs : Filters) → length p ≤ components (made (Some p) fs)
target-components p fs = omega (arith, behind-components fs p, linked-components (append fs (only (onto p))))

kept-components : (f : Filter) (p : Path) → kept_place f ≡ Some p → length p ≤ components f
kept-components nop p e = absurd (none-some p e)
kept-components (sub q) p e = absurd (none-some p e)
kept-components (onto q) p e = absurd (none-some p e)
kept-components (dir q) p e = omega (arith, ap length (same_Some q p e))
kept-components (file q) p e = omega (arith, ap length (same_Some q p e))
kept-components (exclude f) p e = absurd (none-some p e)
kept-components (join fs) p e = absurd (none-some p e)
kept-components (chain fs) p e = absurd (none-some p e)
kept-components (workspace q) p e = absurd (none-some p e)

made-short : (t : Option Path) (fs : Filters) (n : ℕ) (p : Path) → place (record { target = t; filter = made t fs; size = n }) ≡ Some p → length p ≤ components (made t fs)
made-short None fs n p e = kept-components (made None fs) p e
made-short (Some q) fs n p e = subst (λ x. length x ≤ components (made (Some q) fs)) (same_Some q p e) (target-components q fs)

entry-short : {w : Bytes} {m : Member} → SpellsEntry w m → IsShort m
entry-short (entry w v t fs s n) = record { placed = λ p e. made-short t fs (length (w ++ v)) p e }

entries-short : {w : Bytes} {ms : List Member} → SpellsEntries w ms → Each IsShort ms
entries-short (an_entry w m e) = (entry-short e, tt)
entries-short (entries w g v m ms e k es) = (entry-short e, entries-short es)

file-short : {t : Bytes} {ms : List Member} → SpellsFile t ms → Each IsShort ms
file-short (no_entries g l) = tt
file-short (some_entries g w h b ms i es l) = entries-short es

-- ---- items

-- the place of an item has few components
abbrev pub IsShallow : Item → Type 0
IsShallow i = length i.0 ≤ FILTER_COMPONENTS

abbrev ShallowItem : Member → Option Item → Type 0
ShallowItem m None = ⊤
ShallowItem m (Some i) = IsShallow i × (i.1 ≡ m.filter)

shallow-item : (m : Member) → IsShort m → ShallowItem m (item_of m)
shallow-item m h = by (is_fit m) refl (place m) refl
  where
    few : is_fit m ≡ true → components m.filter ≤ FILTER_COMPONENTS
    few e =
        leb-true (components m.filter) FILTER_COMPONENTS
        (and_parts (nat_le m.size FILTER_BYTES) (nat_le (components m.filter) FILTER_COMPONENTS)
        (and_parts (nat_le m.size FILTER_BYTES && nat_le (components m.filter) FILTER_COMPONENTS) (not (has_workspace m.filter)) e).0).1

    by : (b : Bool) → is_fit m ≡ b → (o : Option Path) → place m ≡ o → ShallowItem m (cond b (option_map {U = Item} (λ p. (p, m.filter)) o) None)
    by true f None e = tt
    by true f (Some p) e = (omega (arith, few f, h.placed p e), refl)
    by false f o e = tt

-- an item within this room, and the room that is left
abbrev RoomyItem : ℕ → Option (Item × ℕ) → Type 0
RoomyItem room None = ⊤
RoomyItem room (Some x) = IsShallow x.0 × (pieces x.0.1 + x.1 ≤ room)

roomy-fits : (room : ℕ) (m : Member) → IsShort m → RoomyItem room (roomy_item room m)
roomy-fits room m h = by (nat_le (pieces m.filter) room) refl (item_of m) (shallow-item m h)
  where
    by : (b : Bool) → nat_le (pieces m.filter) room ≡ b → (o : Option Item) → ShallowItem m o → RoomyItem room (cond b (option_map {U = Item × ℕ} (λ i. (i, room - pieces m.filter)) o) None)
    by true e None k = tt
    by true e (Some i) k = (k.0, omega (arith, leb-true (pieces m.filter) room e, ap pieces k.1))
    by false e o k = tt

-- items with few components in each place, so many, and with few pieces together
record AreWithin (room n : ℕ) (is : List Item) : Type 0 where
  shallow : Each IsShallow is
  count : length is ≡ n
  fit : sum_by (λ i. pieces i.1) is ≤ room

abbrev WithinItems : ℕ → ℕ → Option (List Item) → Type 0
WithinItems room n None = ⊤
WithinItems room n (Some is) = AreWithin room n is

within-onto : (room left n : ℕ) (i : Item) → IsShallow i → pieces i.1 + left ≤ room → (o : Option (List Item)) → WithinItems left n o → WithinItems room (suc n) (option_map (λ is. i ∷ is) o)
within-onto room left n i h e None k = tt
within-onto room left n i h e (Some is) k = record {
  shallow = (h, k.shallow);
  count = omega (arith, k.count);
  fit = omega (arith, e, k.fit, sum_by-cons (λ (j : Item). pieces j.1) i is);
}

within-with : (room : ℕ) (ms : List Member) → ((r : ℕ) → WithinItems r (length ms) (items_of r ms)) → (o : Option (Item × ℕ)) → RoomyItem room o →
    WithinItems room (suc (length ms)) (option_and_then (λ x. option_map (λ is. x.0 ∷ is) (items_of x.1 ms)) o)
within-with room ms ih None h = tt
within-with room ms ih (Some x) h = within-onto room x.1 (length ms) x.0 h.0 h.1 (items_of x.1 ms) (ih x.1)

within-items : (room : ℕ) (ms : List Member) → Each IsShort ms → WithinItems room (length ms) (items_of room ms)
within-items room [] h = record { shallow = tt; count = refl; fit = omega arith }
within-items room (m ∷ ms) h = within-with room ms (λ r. within-items r ms h.1) (roomy_item room m) (roomy-fits room m h.0)

-- few items, with few components in each place, and with few pieces together
pub record AreFew (is : List Item) : Type 0 where
  pub shallow : Each IsShallow is
  pub few : length is ≤ WORKSPACE_BYTES
  pub fit : sum_by (λ i. pieces i.1) is ≤ FILTER_PIECES

abbrev FewItems : Option (List Item) → Type 0
FewItems None = ⊤
FewItems (Some is) = AreFew is

few-of : (n : ℕ) → n ≤ WORKSPACE_BYTES → (o : Option (List Item)) → WithinItems FILTER_PIECES n o → FewItems o
few-of n h None k = tt
few-of n h (Some is) k = record { shallow = k.shallow; few = omega (arith, h, k.count); fit = k.fit }

few-members : (n : ℕ) → n ≤ WORKSPACE_BYTES → (o : Option (List Member)) → Fewer (n + 1) o → ((ms : List Member) → o ≡ Some ms → Each IsShort ms) → FewItems (option_and_then (items_of FILTER_PIECES) o)
few-members n h None f k = tt
few-members n h (Some ms) f k = few-of (length ms) (omega (arith, h, f)) (items_of FILTER_PIECES ms) (within-items FILTER_PIECES ms (k ms refl))

items-within : (t : Bytes) → FewItems (items t)
unfolding items
items-within t = by (nat_le (length t) WORKSPACE_BYTES) refl (not (too_deep t))
  where
    by : (a : Bool) → nat_le (length t) WORKSPACE_BYTES ≡ a → (b : Bool) → FewItems (cond (a && b) (option_and_then (items_of FILTER_PIECES) (members t)) None)
    by true e true = few-members (length t) (leb-true (length t) WORKSPACE_BYTES e) (members t) (fewer-members t) (λ ms z. file-short (file-spelled t ms z))
    by true e false = tt
    by false e b = tt

pub items-few : (t : Bytes) (is : List Item) → items t ≡ Some is → AreFew is
items-few t is e = subst FewItems e (items-within t)
