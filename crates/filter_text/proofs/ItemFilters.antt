-- The filters of a file's items.
use Rattle.std.proofs.Common.{◌≡◌, ◌-◌, ℕ, Bool, true, false, not, cond, ◌&&◌, true≢false, List, [], ◌∷◌, length, Option, Some, None, refl, sym, subst, leb}
use Rattle.std.specs.Option.{option_map, option_and_then}
use Rattle.std.specs.List.{list_all}
use Rattle.std.specs.Cmp.{first_so, second_so}
use Rattle.git_objects.specs.Paths.{Bytes}
use Rattle.git_objects.proofs.Basics.{and_both}
use Rattle.filter_text.specs.Filters.{is_linked, has_workspace, pieces, components}
use Rattle.filter_text.specs.Limits.{too_deep}
use Rattle.filter_text.specs.Items.{Member, Item, is_item_filter, place, is_fit, item_of, roomy_item, items_of, members, items}
use Rattle.filter_text.specs.Spelling.{SpellsEntry, entry, SpellsEntries, an_entry, entries, SpellsFile, no_entries, some_entries}
use Rattle.filter_text.proofs.Spelled.{then_gives}
use Rattle.filter_text.proofs.FileGrammar.{file-spelled}
use Rattle.filter_text.proofs.Goods.{made-good, none-placed}

abbrev links : List Member → Bool
links ms = list_all (λ m. is_linked m.filter) ms

entry_links : {w : Bytes} {m : Member} → SpellsEntry w m → is_linked m.filter ≡ true
entry_links (entry w v t fs st sp) = (made-good st sp).links

entries_link : {w : Bytes} {ms : List Member} → SpellsEntries w ms → links ms ≡ true
entries_link (an_entry w m e) = and_both (entry_links e) refl
entries_link (entries w g v m ms e k es) = and_both (entry_links e) (entries_link es)

file_links : {t : Bytes} {ms : List Member} → SpellsFile t ms → links ms ≡ true
file_links (no_entries g l) = refl
file_links (some_entries g w h b ms i es l) = entries_link es

not_true : (b : Bool) → not b ≡ true → b ≡ false
not_true true h = absurd (true≢false (sym h))
not_true false h = refl

abbrev ItemOf : Member → Option Item → Type 0
ItemOf m None = Unit {0}
ItemOf m (Some i) = is_item_filter i.1 ≡ true

item_filter : (m : Member) → is_linked m.filter ≡ true → ItemOf m (item_of m)
item_filter m l =
    elim (is_fit m) as (λ b. is_fit m ≡ b → ItemOf m (cond b (option_map {U = Item} (λ p. (p, m.filter)) (place m)) None)) [
      | true ↦ λ e.
          let none = second_so (leb m.size 4096 && leb (components m.filter) 256) (not (has_workspace m.filter)) e in
          let f = and_both (and_both l (none-placed m.filter (not_true (has_workspace m.filter) none))) none in
          elim (place m) as (λ o. ItemOf m (option_map {U = Item} (λ p. (p, m.filter)) o)) [ None ↦ tt | Some p ↦ f ]
      | false ↦ λ e. tt
    ] refl

abbrev RoomyOf : Option (Item × ℕ) → Type 0
RoomyOf None = Unit {0}
RoomyOf (Some x) = is_item_filter x.0.1 ≡ true

roomy_filter : (room : ℕ) (m : Member) → is_linked m.filter ≡ true → RoomyOf (roomy_item room m)
roomy_filter room m l =
    elim (leb (pieces m.filter) room) as (λ b. RoomyOf (cond b (option_map {U = Item × ℕ} (λ i. (i, room - pieces m.filter)) (item_of m)) None)) [
      | true ↦ from (item_of m) (item_filter m l)
      | false ↦ tt
    ]
  where
    from : (o : Option Item) → ItemOf m o → RoomyOf (option_map {U = Item × ℕ} (λ i. (i, room - pieces m.filter)) o)
    from None h = tt
    from (Some i) h = h

abbrev are_item_filters : List Item → Bool
are_item_filters is = list_all (λ i. is_item_filter i.1) is

abbrev ItemsOf : Option (List Item) → Type 0
ItemsOf None = Unit {0}
ItemsOf (Some is) = are_item_filters is ≡ true

items_onto : (i : Item) → is_item_filter i.1 ≡ true → (o : Option (List Item)) → ItemsOf o → ItemsOf (option_map (λ is. i ∷ is) o)
items_onto i h None k = tt
items_onto i h (Some is) k = and_both h k

items_with : (ms : List Member) → ((room : ℕ) → ItemsOf (items_of room ms)) → (o : Option (Item × ℕ)) → RoomyOf o →
    ItemsOf (option_and_then (λ x. option_map (λ is. x.0 ∷ is) (items_of x.1 ms)) o)
items_with ms ih None h = tt
items_with ms ih (Some x) h = items_onto x.0 h (items_of x.1 ms) (ih x.1)

items_filters : (room : ℕ) (ms : List Member) → links ms ≡ true → ItemsOf (items_of room ms)
items_filters room [] l = refl
items_filters room (m ∷ ms) l =
    items_with ms (λ left. items_filters left ms (second_so (is_linked m.filter) (links ms) l))
    (roomy_item room m) (roomy_filter room m (first_so (is_linked m.filter) (links ms) l))

pub items-valid : (t : Bytes) (is : List Item) → items t ≡ Some is → list_all (λ i. is_item_filter i.1) is ≡ true
unfolding items
items-valid t is e =
    elim (leb (length t) 65536 && not (too_deep t)) as (λ b. cond b (option_and_then (items_of 1024) (members t)) None ≡ Some is → are_item_filters is ≡ true) [
      | true ↦ λ h.
          let k = then_gives (items_of 1024) (members t) is h in
          subst ItemsOf k.to (items_filters 1024 k.value (file_links (file-spelled t k.value k.is)))
      | false ↦ λ h. absurd (let k : ⊥ = cc in k)
    ] e
