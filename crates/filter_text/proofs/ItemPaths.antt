-- What is read is made of paths.
use Rattle.std.specs.Prelude.{◌≡◌, refl, ◌-◌, ℕ, Bool, true, false, cond, ⊤, List, [], ◌∷◌, ◌++◌, length, Option, Some, None, nat_le}
use Rattle.std.specs.Option.{option_map, option_and_then}
use Rattle.std.proofs.Common.{subst}
use Rattle.std.proofs.lemmas.Bool.{and_from}
use Rattle.std.proofs.lemmas.Option.{none-some, same_Some}
use Rattle.git_objects.specs.Lists.{Each}
use Rattle.git_objects.specs.Paths.{Bytes, Path, is_path, text}
use Rattle.git_objects.specs.declared.limits.TheConstants.{FILTER_PIECES}
use Rattle.git_objects.proofs.Pointwise.{from-T}
use Rattle.path_names.proofs.Readings.{path_text_law}
use Rattle.filter_text.specs.Filters.{Filter, Filters, nop, sub, onto, dir, file, exclude, join, chain, workspace, no_more, more, has_paths, have_paths, pieces}
use Rattle.filter_text.specs.Items.{IsMadeOfPaths, Member, Item, is_fit, item_of, items, items_of, kept_place, members, place, roomy_item}
use Rattle.filter_text.specs.Reading.{made}
use Rattle.filter_text.specs.Spelling.{SpellsName, bare, quoted, SpellsTarget, target, SpellsEntry, entry, SpellsEntries, an_entry, entries, SpellsFile, no_entries, some_entries}
use Rattle.filter_text.proofs.FileGrammar.{file-spelled}
use Rattle.filter_text.proofs.Goods.{HasReadable, HaveReadable, IsReadable, made-good}

-- ---- paths that are read

readable-path : (p : Path) → IsReadable p → is_path p ≡ true
readable-path p h = from-T (is_path p) (path_text_law.path (text p) p h)

name-path : {w : Bytes} {p : Path} → SpellsName w p → is_path p ≡ true
name-path (bare w p h e) = from-T (is_path p) (path_text_law.path w p e)
name-path (quoted w u p q e) = from-T (is_path p) (path_text_law.path u p e)

mutual
  pub readable-paths : (f : Filter) → HasReadable f → has_paths f ≡ true
  readable-paths nop h = refl
  readable-paths (sub p) h = readable-path p h
  readable-paths (onto p) h = readable-path p h
  readable-paths (dir p) h = readable-path p h
  readable-paths (file p) h = readable-path p h
  readable-paths (exclude f) h = readable-paths f h
  readable-paths (join fs) h = all-readable-paths fs h
  readable-paths (chain fs) h = all-readable-paths fs h
  readable-paths (workspace p) h = readable-path p h

  pub all-readable-paths : (fs : Filters) → HaveReadable fs → have_paths fs ≡ true
  all-readable-paths no_more h = refl
  all-readable-paths (more f fs) h = and_from (has_paths f) (have_paths fs) (readable-paths f h.0) (all-readable-paths fs h.1)

-- ---- members of a file

record HasPaths (m : Member) : Type 0 where
  paths : has_paths m.filter ≡ true
  placed : (p : Path) → place m ≡ Some p → is_path p ≡ true

kept-path : (f : Filter) → HasReadable f → (p : Path) → kept_place f ≡ Some p → is_path p ≡ true
kept-path nop h p e = absurd (none-some p e)
kept-path (sub q) h p e = absurd (none-some p e)
kept-path (onto q) h p e = absurd (none-some p e)
kept-path (dir q) h p e = subst (λ x. is_path x ≡ true) (same_Some q p e) (readable-path q h)
kept-path (file q) h p e = subst (λ x. is_path x ≡ true) (same_Some q p e) (readable-path q h)
kept-path (exclude f) h p e = absurd (none-some p e)
kept-path (join fs) h p e = absurd (none-some p e)
kept-path (chain fs) h p e = absurd (none-some p e)
kept-path (workspace q) h p e = absurd (none-some p e)

target-path : {w : Bytes} {p : Path} → SpellsTarget w (Some p) → is_path p ≡ true
target-path (target w u v p n b c) = name-path n

entry-placed : {w : Bytes} (t : Option Path) → SpellsTarget w t → (f : Filter) → HasReadable f → (n : ℕ) (p : Path) → place (record { target = t; filter = f; size = n }) ≡ Some p → is_path p ≡ true
entry-placed None s f h n p e = kept-path f h p e
entry-placed (Some q) s f h n p e = subst (λ x. is_path x ≡ true) (same_Some q p e) (target-path s)

entry-fine : {w : Bytes} {m : Member} → SpellsEntry w m → HasPaths m
entry-fine (entry w v t fs s n) = record {
  paths = readable-paths (made t fs) (made-good s n).paths;
  placed = λ p e. entry-placed t s (made t fs) (made-good s n).paths (length (w ++ v)) p e;
}

entries-fine : {w : Bytes} {ms : List Member} → SpellsEntries w ms → Each HasPaths ms
entries-fine (an_entry w m e) = (entry-fine e, tt)
entries-fine (entries w g v m ms e k es) = (entry-fine e, entries-fine es)

file-fine : {t : Bytes} {ms : List Member} → SpellsFile t ms → Each HasPaths ms
file-fine (no_entries g l) = tt
file-fine (some_entries g w h b ms i es l) = entries-fine es

-- ---- items

abbrev FineItem : Option Item → Type 0
FineItem None = ⊤
FineItem (Some i) = IsMadeOfPaths i

fine-item : (m : Member) → HasPaths m → FineItem (item_of m)
fine-item m h = by (is_fit m) (place m) refl
  where
    by : (b : Bool) (o : Option Path) → place m ≡ o → FineItem (cond b (option_map {U = Item} (λ p. (p, m.filter)) o) None)
    by true None e = tt
    by true (Some p) e = (h.placed p e, h.paths)
    by false o e = tt

abbrev FineRoomy : Option (Item × ℕ) → Type 0
FineRoomy None = ⊤
FineRoomy (Some x) = IsMadeOfPaths x.0

fine-roomy : (room : ℕ) (m : Member) → HasPaths m → FineRoomy (roomy_item room m)
fine-roomy room m h = by (nat_le (pieces m.filter) room) (item_of m) (fine-item m h)
  where
    by : (b : Bool) (o : Option Item) → FineItem o → FineRoomy (cond b (option_map {U = Item × ℕ} (λ i. (i, room - pieces m.filter)) o) None)
    by true None k = tt
    by true (Some i) k = k
    by false o k = tt

abbrev FineItems : Option (List Item) → Type 0
FineItems None = ⊤
FineItems (Some is) = Each IsMadeOfPaths is

fine-onto : (i : Item) → IsMadeOfPaths i → (o : Option (List Item)) → FineItems o → FineItems (option_map (λ is. i ∷ is) o)
fine-onto i h None k = tt
fine-onto i h (Some is) k = (h, k)

fine-with : (ms : List Member) → ((room : ℕ) → FineItems (items_of room ms)) → (o : Option (Item × ℕ)) → FineRoomy o →
    FineItems (option_and_then (λ x. option_map (λ is. x.0 ∷ is) (items_of x.1 ms)) o)
fine-with ms ih None h = tt
fine-with ms ih (Some x) h = fine-onto x.0 h (items_of x.1 ms) (ih x.1)

fine-items : (room : ℕ) (ms : List Member) → Each HasPaths ms → FineItems (items_of room ms)
fine-items room [] h = tt
fine-items room (m ∷ ms) h = fine-with ms (λ r. fine-items r ms h.1) (roomy_item room m) (fine-roomy room m h.0)

fine-members : (room : ℕ) (o : Option (List Member)) → ((ms : List Member) → o ≡ Some ms → Each HasPaths ms) → FineItems (option_and_then (items_of room) o)
fine-members room None h = tt
fine-members room (Some ms) h = fine-items room ms (h ms refl)

fine-file : (b : Bool) (o : Option (List Item)) → FineItems o → FineItems (cond b o None)
fine-file true o h = h
fine-file false o h = tt

pub items-fine : (t : Bytes) → FineItems (items t)
unfolding items
items-fine t = fine-file _ (option_and_then (items_of FILTER_PIECES) (members t)) (fine-members FILTER_PIECES (members t) (λ ms e. file-fine (file-spelled t ms e)))

pub items-are : (t : Bytes) (is : List Item) → items t ≡ Some is → Each IsMadeOfPaths is
items-are t is e = subst FineItems e (items-fine t)
