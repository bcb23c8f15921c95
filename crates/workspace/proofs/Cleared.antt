-- No workspace is left in what a filter is resolved to.
use Rattle.std.specs.Prelude.{◌≡◌, refl, Bool, true, false, not, ◌&&◌, ◌||◌, cond, List, [], ◌∷◌, map, flat_map, Option, Some, None, unwrap_or}
use Rattle.std.specs.Option.{option_and_then, option_map_or}
use Rattle.std.specs.List.{list_all}
use Rattle.std.proofs.Common.{ap, ◌∙◌, sym, subst, true≢false}
use Rattle.std.proofs.lemmas.Bool.{and_parts, or_from}
use Rattle.std.proofs.lemmas.Option.{none-some}
use Rattle.git_objects.specs.Paths.{Path}
use Rattle.git_objects.specs.Trees.{Leaf, FileLeaf, ExecLeaf, LinkLeaf, ModuleLeaf}
use Rattle.filter_text.specs.Filters.{Filter, Filters, nop, sub, onto, dir, file, exclude, join, chain, workspace, no_more, more, append, only, outermost, has_workspace, some_have_workspace, is_workspace, has_one_place, is_filter, is_linked, is_placed}
use Rattle.filter_text.specs.Reading.{linked}
use Rattle.filter_text.specs.Items.{Item, items, is_item_filter}
use Rattle.filter_text.proofs.ItemFilters.{items-valid}
use Rattle.filter_routes.specs.SoundTests.{is_sound}
use Rattle.workspace.specs.Workspaces.{Split, split, split_at, split_pieces, directory_of, fronts, around, filters_of, own_branch, listed, readable_items, leaf_items, put_in, with_leaf}
use Rattle.git_objects.specs.Lists.{Each}
use Rattle.workspace.specs.Laws.{ResolveLaw}
use Rattle.workspace.proofs.Usable.{directory-is, each-append, place-path, place-shown, with-usable}

not-is : (b : Bool) → not b ≡ true → b ≡ false
not-is true e = absurd (true≢false (sym e))
not-is false e = refl

no-directory : (f : Filter) → directory_of f ≡ None → is_workspace f ≡ false
no-directory nop e = refl
no-directory (sub a) e = refl
no-directory (onto a) e = refl
no-directory (dir a) e = refl
no-directory (file a) e = refl
no-directory (exclude f) e = refl
no-directory (join fs) e = refl
no-directory (chain fs) e = refl
no-directory (workspace w) e = absurd (none-some w (sym e))

-- behind a workspace there is no other
behind-at : (f : Filter) (fs : Filters) (b : Bool) → (cond b false (not (has_workspace f)) && has_one_place (true || b) fs) ≡ true → (has_one_place true fs ≡ true → some_have_workspace fs ≡ false) → (has_workspace f || some_have_workspace fs) ≡ false
behind-at f fs true e h = absurd (true≢false (sym e))
behind-at f fs false e h =
    let k : (not (has_workspace f) ≡ true) × (has_one_place true fs ≡ true) = and_parts (not (has_workspace f)) (has_one_place true fs) e in
    or_from (has_workspace f) (some_have_workspace fs) (not-is (has_workspace f) k.0) (h k.1)

none-behind : (fs : Filters) → has_one_place true fs ≡ true → some_have_workspace fs ≡ false
none-behind no_more e = refl
none-behind (more f fs) e = behind-at f fs (is_workspace f) e (none-behind fs)

abbrev Clear : Filters → Option Split → Type 0
Clear fs None = some_have_workspace fs ≡ false
Clear fs (Some s) = (some_have_workspace s.before ≡ false) × (some_have_workspace s.behind ≡ false)

clear-at : (f : Filter) (fs : Filters) (o : Option Path) (later : Option Split) → directory_of f ≡ o → has_one_place false (more f fs) ≡ true → (has_one_place false fs ≡ true → Clear fs later) → Clear (more f fs) (split_at f fs o later)
clear-at f fs (Some w) later e h k = (refl, none-behind fs (subst (λ g. has_one_place false (more g fs) ≡ true) (directory-is f w e) h))
clear-at f fs None later e h k =
    let plain : (not (has_workspace f) && has_one_place false fs) ≡ true = sym (ap (λ b. cond b true (not (has_workspace f)) && has_one_place (false || b) fs) (no-directory f e)) ∙ h in
    let w : (not (has_workspace f) ≡ true) × (has_one_place false fs ≡ true) = and_parts (not (has_workspace f)) (has_one_place false fs) plain in
    by later (not-is (has_workspace f) w.0) (k w.1)
  where
    by : (later : Option Split) → has_workspace f ≡ false → Clear fs later → Clear (more f fs) (split_at f fs None later)
    by None n c = or_from (has_workspace f) (some_have_workspace fs) n c
    by (Some s) n c = (or_from (has_workspace f) (some_have_workspace s.before) n c.0, c.1)

clear-pieces : (fs : Filters) → has_one_place false fs ≡ true → Clear fs (split_pieces fs)
clear-pieces no_more e = refl
clear-pieces (more f fs) e = clear-at f fs (directory_of f) (split_pieces fs) refl e (clear-pieces fs)

outermost-clear : (f : Filter) → some_have_workspace (outermost f) ≡ false → has_workspace f ≡ false
outermost-clear nop e = refl
outermost-clear (sub a) e = refl
outermost-clear (onto a) e = refl
outermost-clear (dir a) e = refl
outermost-clear (file a) e = refl
outermost-clear (exclude f) e = only-clear (has_workspace f) e
  where
    only-clear : (b : Bool) → (b || false) ≡ false → b ≡ false
    only-clear true e = e
    only-clear false e = e
outermost-clear (join fs) e = only-clear (some_have_workspace fs) e
  where
    only-clear : (b : Bool) → (b || false) ≡ false → b ≡ false
    only-clear true e = e
    only-clear false e = e
outermost-clear (chain fs) e = e
outermost-clear (workspace w) e = absurd (true≢false e)

append-at : (f : Filter) (fs gs : Filters) (b : Bool) → has_workspace f ≡ b → (b || some_have_workspace fs) ≡ false → (some_have_workspace fs ≡ false → some_have_workspace (append fs gs) ≡ false)
    → (has_workspace f || some_have_workspace (append fs gs)) ≡ false
append-at f fs gs true i e h = absurd (true≢false e)
append-at f fs gs false i e h = or_from (has_workspace f) (some_have_workspace (append fs gs)) i (h e)

append-clear : (fs gs : Filters) → some_have_workspace fs ≡ false → some_have_workspace gs ≡ false → some_have_workspace (append fs gs) ≡ false
append-clear no_more gs h k = k
append-clear (more f fs) gs h k = append-at f fs gs (has_workspace f) refl h (λ e. append-clear fs gs e k)

linked-clear : (fs : Filters) → some_have_workspace fs ≡ false → has_workspace (linked fs) ≡ false
linked-clear no_more h = refl
linked-clear (more f no_more) h = by (has_workspace f) h
  where
    by : (b : Bool) → (b || false) ≡ false → b ≡ false
    by true e = e
    by false e = e
linked-clear (more f (more g fs)) h = h

-- ---- the list

abbrev IsClear : Filter → Type 0
IsClear f = has_workspace f ≡ false

members-clear : (fs : List Filter) → Each IsClear fs → some_have_workspace (filters_of fs) ≡ false
members-clear [] h = refl
members-clear (f ∷ fs) h = or_from (has_workspace f) (some_have_workspace (filters_of fs)) h.0 (members-clear fs h.1)

files-clear : (ps : List Path) → Each IsClear (map file ps)
files-clear [] = tt
files-clear (p ∷ ps) = (refl, files-clear ps)

around-clear : (is : List Item) → Each IsClear (flat_map (λ i. around i.0) is)
around-clear [] = tt
around-clear (i ∷ is) = each-append IsClear (around i.0) (flat_map (λ i. around i.0) is) (refl, (refl, files-clear (fronts i.0))) (around-clear is)

own-clear : (w : Path) (is : List Item) → has_workspace (own_branch w is) ≡ false
own-clear w is = or_from (some_have_workspace (filters_of (flat_map (λ i. around i.0) is))) false (members-clear (flat_map (λ i. around i.0) is) (around-clear is)) refl

items-clear : (is : List Item) → list_all (λ i. is_item_filter i.1) is ≡ true → Each IsClear (map (λ i. i.1) is)
items-clear [] h = tt
items-clear (i ∷ is) h =
    let w : (is_item_filter i.1 ≡ true) × (list_all (λ i. is_item_filter i.1) is ≡ true) = and_parts (is_item_filter i.1) (list_all (λ i. is_item_filter i.1) is) h in
    (not-is (has_workspace i.1) (and_parts (is_filter i.1) (not (has_workspace i.1)) w.0).1, items-clear is w.1)

abbrev GivenOf : Option (List Item) → Type 0
GivenOf None = Unit {0}
GivenOf (Some is) = list_all (λ i. is_item_filter i.1) is ≡ true

given-test : (is : List Item) (b : Bool) → list_all (λ i. is_item_filter i.1) is ≡ true → GivenOf (cond b (Some is) None)
given-test is true h = h
given-test is false h = tt

given-text : (w : Path) (o : Option (List Item)) → ((is : List Item) → o ≡ Some is → list_all (λ i. is_item_filter i.1) is ≡ true) → GivenOf (option_and_then (λ is. cond (is_sound (listed w is)) (Some is) None) o)
given-text w None h = tt
given-text w (Some is) h = given-test is (is_sound (listed w is)) (h is refl)

given-items : (w : Path) (x : Leaf) → GivenOf (readable_items w x)
given-items w (FileLeaf b) = given-text w (items b) (items-valid b)
given-items w (ExecLeaf b) = given-text w (items b) (items-valid b)
given-items w (LinkLeaf b) = tt
given-items w (ModuleLeaf n) = tt

or-none : (o : Option (List Item)) → GivenOf o → list_all (λ i. is_item_filter i.1) (unwrap_or o []) ≡ true
or-none None h = refl
or-none (Some is) h = h

items-are : (w : Path) (x : Option Leaf) → list_all (λ i. is_item_filter i.1) (leaf_items w x) ≡ true
items-are w None = refl
items-are w (Some x) = or-none (readable_items w x) (given-items w x)

list-clear : (w : Path) (x : Option Leaf) → has_workspace (listed w (leaf_items w x)) ≡ false
unfolding listed
list-clear w x =
    append-clear (filters_of (map (λ i. i.1) (leaf_items w x))) (only (own_branch w (leaf_items w x))) (members-clear (map (λ i. i.1) (leaf_items w x)) (items-clear (leaf_items w x) (items-are w x)))
    (or_from (has_workspace (own_branch w (leaf_items w x))) false (own-clear w (leaf_items w x)) refl)

resolved : (f : Filter) (x : Option Leaf) → is_filter f ≡ true → has_workspace (with_leaf f x) ≡ false
unfolding with_leaf
resolved f x h = by (split f) (clear-pieces (outermost f) (and_parts (is_linked f) (is_placed f) h).1)
  where
    by : (o : Option Split) → Clear (outermost f) o → has_workspace (option_map_or (λ s. put_in s (listed s.directory (leaf_items s.directory x))) o f) ≡ false
    by None c = outermost-clear f c
    by (Some s) c =
        linked-clear (append s.before (more (listed s.directory (leaf_items s.directory x)) s.behind))
        (append-clear s.before (more (listed s.directory (leaf_items s.directory x)) s.behind) c.0
        (or_from (has_workspace (listed s.directory (leaf_items s.directory x))) (some_have_workspace s.behind) (list-clear s.directory x) c.1))

pub the_law : ResolveLaw
the_law = record { usable = with-usable; resolved = resolved; place_path = place-path; place_shown = place-shown }
