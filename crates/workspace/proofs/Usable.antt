-- What a filter is resolved to is sound again.
use Rattle.std.specs.Prelude.{◌≡◌, refl, ℕ, Bool, true, false, cond, List, [], ◌∷◌, ◌++◌, map, flat_map, Option, Some, None, unwrap_or}
use Rattle.std.specs.Option.{option_and_then, option_map_or}
use Rattle.std.specs.List.{list_all}
use Rattle.std.proofs.Common.{ap, ◌∙◌, sym, subst}
use Rattle.std.proofs.lemmas.Bool.{and_parts, and_from}
use Rattle.std.proofs.lemmas.Option.{none-some, same_Some}
use Rattle.git_objects.specs.Paths.{Path, is_path, is_component}
use Rattle.git_objects.specs.Trees.{Leaf, FileLeaf, ExecLeaf, LinkLeaf, ModuleLeaf, Flat, IsTree, at}
use Rattle.git_objects.specs.Lists.{Each}
use Rattle.git_objects.proofs.Maps.{at_rest}
use Rattle.filter_text.specs.Filters.{Filter, Filters, nop, sub, onto, dir, file, exclude, join, chain, workspace, no_more, more, append, only, outermost, has_paths, have_paths}
use Rattle.filter_text.specs.Reading.{linked}
use Rattle.filter_text.specs.Items.{IsMadeOfPaths, Item, items}
use Rattle.filter_text.proofs.ItemPaths.{items-are}
use Rattle.decision_lists.specs.Lists.{IsPath}
use Rattle.filter_routes.specs.Soundness.{AreSound}
use Rattle.decision_lists.proofs.Compile.{full-behind}
use Rattle.decision_lists.proofs.Valid.{path-from, valid-both, valid-path}
use Rattle.filter_routes.specs.Lenses.{IsLens, seen_through}
use Rattle.filter_routes.specs.Origins.{origin, lens_of}
use Rattle.filter_routes.specs.SoundTests.{is_sound}
use Rattle.workspace.specs.Workspaces.{Split, split, split_at, split_pieces, directory_of, place, file_name, fronts, around, filters_of, own_branch, listed, readable_items, leaf_items, put_in, with_leaf}
use Rattle.workspace.specs.Laws.{IsUsable}
use Rattle.filter_routes.proofs.Inverse.{the_law as lens_law}
use Rattle.filter_routes.proofs.SoundLemmas.{the_law as sound_law}
use Rattle.filter_routes.proofs.SeenTrees.{at-seen}

-- ---- a filter around its workspace

pub directory-is : (f : Filter) (w : Path) → directory_of f ≡ Some w → f ≡ workspace w
directory-is nop w e = absurd (none-some w e)
directory-is (sub a) w e = absurd (none-some w e)
directory-is (onto a) w e = absurd (none-some w e)
directory-is (dir a) w e = absurd (none-some w e)
directory-is (file a) w e = absurd (none-some w e)
directory-is (exclude f) w e = absurd (none-some w e)
directory-is (join fs) w e = absurd (none-some w e)
directory-is (chain fs) w e = absurd (none-some w e)
directory-is (workspace v) w e = ap workspace (same_Some v w e)

abbrev Around : Filters → Option Split → Type 0
Around fs None = Unit {0}
Around fs (Some s) = fs ≡ append s.before (more (workspace s.directory) s.behind)

around-at : (f : Filter) (fs : Filters) (o : Option Path) (later : Option Split) → directory_of f ≡ o → Around fs later → Around (more f fs) (split_at f fs o later)
around-at f fs (Some w) later e h = ap (λ x. more x fs) (directory-is f w e)
around-at f fs None None e h = tt
around-at f fs None (Some s) e h = ap (more f) h

around-pieces : (fs : Filters) → Around fs (split_pieces fs)
around-pieces no_more = tt
around-pieces (more f fs) = around-at f fs (directory_of f) (split_pieces fs) refl (around-pieces fs)

pub split-is : (f : Filter) (s : Split) → split f ≡ Some s → outermost f ≡ append s.before (more (workspace s.directory) s.behind)
split-is f s e = subst (Around (outermost f)) e (around-pieces (outermost f))

-- ---- usable pieces

record ArePieces (fs : Filters) : Type 0 where
  paths : have_paths fs ≡ true
  sound : AreSound fs

usable-only : (f : Filter) → IsUsable f → ArePieces (only f)
usable-only f h = record { paths = and_from (has_paths f) true h.paths refl; sound = (h.sound, tt) }

usable-outermost : (f : Filter) → IsUsable f → ArePieces (outermost f)
usable-outermost nop h = usable-only nop h
usable-outermost (sub a) h = usable-only (sub a) h
usable-outermost (onto a) h = usable-only (onto a) h
usable-outermost (dir a) h = usable-only (dir a) h
usable-outermost (file a) h = usable-only (file a) h
usable-outermost (exclude f) h = usable-only (exclude f) h
usable-outermost (join fs) h = usable-only (join fs) h
usable-outermost (chain fs) h = record { paths = h.paths; sound = h.sound }
usable-outermost (workspace a) h = usable-only (workspace a) h

usable-head : (f : Filter) (fs : Filters) → ArePieces (more f fs) → IsUsable f
usable-head f fs h = record { paths = (and_parts (has_paths f) (have_paths fs) h.paths).0; sound = h.sound.0 }

usable-tail : (f : Filter) (fs : Filters) → ArePieces (more f fs) → ArePieces fs
usable-tail f fs h = record { paths = (and_parts (has_paths f) (have_paths fs) h.paths).1; sound = h.sound.1 }

usable-more : (f : Filter) (fs : Filters) → IsUsable f → ArePieces fs → ArePieces (more f fs)
usable-more f fs h k = record { paths = and_from (has_paths f) (have_paths fs) h.paths k.paths; sound = (h.sound, k.sound) }

usable-front : (fs gs : Filters) → ArePieces (append fs gs) → ArePieces fs
usable-front no_more gs h = record { paths = refl; sound = tt }
usable-front (more f fs) gs h = usable-more f fs (usable-head f (append fs gs) h) (usable-front fs gs (usable-tail f (append fs gs) h))

usable-behind : (fs gs : Filters) → ArePieces (append fs gs) → ArePieces gs
usable-behind no_more gs h = h
usable-behind (more f fs) gs h = usable-behind fs gs (usable-tail f (append fs gs) h)

usable-append : (fs gs : Filters) → ArePieces fs → ArePieces gs → ArePieces (append fs gs)
usable-append no_more gs h k = k
usable-append (more f fs) gs h k = usable-more f (append fs gs) (usable-head f fs h) (usable-append fs gs (usable-tail f fs h) k)

usable-linked : (fs : Filters) → ArePieces fs → IsUsable (linked fs)
usable-linked no_more h = record { paths = refl; sound = tt }
usable-linked (more f no_more) h = usable-head f no_more h
usable-linked (more f (more g fs)) h = record { paths = h.paths; sound = h.sound }

parts-usable : (f : Filter) (s : Split) → IsUsable f → split f ≡ Some s → ArePieces (append s.before (more (workspace s.directory) s.behind))
parts-usable f s h e = subst ArePieces (split-is f s e) (usable-outermost f h)

pub usable-before : (f : Filter) (s : Split) → IsUsable f → split f ≡ Some s → IsUsable (chain s.before)
usable-before f s h e =
    let k : ArePieces s.before = usable-front s.before (more (workspace s.directory) s.behind) (parts-usable f s h e) in
    record { paths = k.paths; sound = k.sound }

pub directory-path : (f : Filter) (s : Split) → IsUsable f → split f ≡ Some s → is_path s.directory ≡ true
directory-path f s h e =
    (usable-head (workspace s.directory) s.behind (usable-behind s.before (more (workspace s.directory) s.behind) (parts-usable f s h e))).paths

-- ---- the list

members-paths : (fs : List Filter) → Each (λ f. has_paths f ≡ true) fs → have_paths (filters_of fs) ≡ true
members-paths [] h = refl
members-paths (f ∷ fs) h = and_from (has_paths f) (have_paths (filters_of fs)) h.0 (members-paths fs h.1)

pub each-append : {A : Type 0} (P : A → Type 0) (xs ys : List A) → Each P xs → Each P ys → Each P (xs ++ ys)
each-append P [] ys h k = k
each-append P (x ∷ xs) ys h k = (h.0, each-append P xs ys h.1 k)

each-map : {A B : Type 0} (P : A → Type 0) (Q : B → Type 0) (f : A → B) → ((x : A) → P x → Q (f x)) → (xs : List A) → Each P xs → Each Q (map f xs)
each-map P Q f g [] h = tt
each-map P Q f g (x ∷ xs) h = (g x h.0, each-map P Q f g xs h.1)

longer-path : (c : List ℕ) (q : Path) → is_component c ≡ true → IsPath q → IsPath (c ∷ q)
longer-path c q h k = and_from (is_component c) (list_all is_component q) h (valid-path q k)

front-paths : (p : Path) → list_all is_component p ≡ true → Each IsPath (fronts p)
front-paths [] h = tt
front-paths (c ∷ []) h = tt
front-paths (c ∷ d ∷ p) h =
    let k : (is_component c ≡ true) × (list_all is_component (d ∷ p) ≡ true) = and_parts (is_component c) (list_all is_component (d ∷ p)) h in
    (and_from (is_component c) true k.0 refl, each-map IsPath IsPath (λ q. c ∷ q) (λ q e. longer-path c q k.0 e) (fronts (d ∷ p)) (front-paths (d ∷ p) k.1))

around-paths : (p : Path) → IsPath p → Each (λ f. has_paths f ≡ true) (around p)
around-paths p h = (h, (h, each-map IsPath (λ f. has_paths f ≡ true) file (λ q e. e) (fronts p) (front-paths p (valid-path p h))))

kept-paths : (is : List Item) → Each IsMadeOfPaths is → Each (λ f. has_paths f ≡ true) (flat_map (λ i. around i.0) is)
kept-paths [] h = tt
kept-paths (i ∷ is) h = each-append (λ f. has_paths f ≡ true) (around i.0) (flat_map (λ i. around i.0) is) (around-paths i.0 h.0.0) (kept-paths is h.1)

append-paths : (fs gs : Filters) → have_paths fs ≡ true → have_paths gs ≡ true → have_paths (append fs gs) ≡ true
append-paths no_more gs h k = k
append-paths (more f fs) gs h k =
    let w : (has_paths f ≡ true) × (have_paths fs ≡ true) = and_parts (has_paths f) (have_paths fs) h in
    and_from (has_paths f) (have_paths (append fs gs)) w.0 (append-paths fs gs w.1 k)

own-paths : (w : Path) (is : List Item) → IsPath w → Each IsMadeOfPaths is → has_paths (own_branch w is) ≡ true
own-paths w is h k = and_from (is_path w) _ h (and_from (have_paths (filters_of (flat_map (λ i. around i.0) is))) true (members-paths (flat_map (λ i. around i.0) is) (kept-paths is k)) refl)

pub listed-paths : (w : Path) (is : List Item) → IsPath w → Each IsMadeOfPaths is → has_paths (listed w is) ≡ true
unfolding listed
listed-paths w is h k =
    append-paths (filters_of (map (λ i. i.1) is)) (only (own_branch w is))
    (members-paths (map (λ i. i.1) is) (each-map IsMadeOfPaths (λ f. has_paths f ≡ true) (λ i. i.1) (λ i e. e.1) is k))
    (and_from (has_paths (own_branch w is)) true (own-paths w is h k) refl)

-- items with paths, whose list is sound
record AreListed (w : Path) (is : List Item) : Type 0 where
  pub fine : Each IsMadeOfPaths is
  pub sound : is_sound (listed w is) ≡ true

abbrev GivenOf : Path → Option (List Item) → Type 0
GivenOf w None = Unit {0}
GivenOf w (Some is) = AreListed w is

given-test : (w : Path) (is : List Item) (b : Bool) → is_sound (listed w is) ≡ b → Each IsMadeOfPaths is → GivenOf w (cond b (Some is) None)
given-test w is true e h = record { fine = h; sound = e }
given-test w is false e h = tt

given-text : (w : Path) (o : Option (List Item)) → ((is : List Item) → o ≡ Some is → Each IsMadeOfPaths is) → GivenOf w (option_and_then (λ is. cond (is_sound (listed w is)) (Some is) None) o)
given-text w None h = tt
given-text w (Some is) h = given-test w is (is_sound (listed w is)) refl (h is refl)

given-listed : (w : Path) (x : Leaf) → GivenOf w (readable_items w x)
given-listed w (FileLeaf b) = given-text w (items b) (items-are b)
given-listed w (ExecLeaf b) = given-text w (items b) (items-are b)
given-listed w (LinkLeaf b) = tt
given-listed w (ModuleLeaf n) = tt

none-listed : (w : Path) → AreListed w []
unfolding listed
none-listed w = record { fine = tt; sound = refl }

or-none-listed : (w : Path) (o : Option (List Item)) → GivenOf w o → AreListed w (unwrap_or o [])
or-none-listed w None h = none-listed w
or-none-listed w (Some is) h = h

items-listed : (w : Path) (x : Option Leaf) → AreListed w (leaf_items w x)
items-listed w None = none-listed w
items-listed w (Some x) = or-none-listed w (readable_items w x) (given-listed w x)

pub list-usable : (w : Path) (x : Option Leaf) → IsPath w → IsUsable (listed w (leaf_items w x))
list-usable w x h =
    let k : AreListed w (leaf_items w x) = items-listed w x in
    let p : has_paths (listed w (leaf_items w x)) ≡ true = listed-paths w (leaf_items w x) h k.fine in
    record { paths = p; sound = (sound_law (listed w (leaf_items w x)) p).0 k.sound }

-- ---- the resolved filter

pub put-usable : (f : Filter) (s : Split) (l : Filter) → IsUsable f → split f ≡ Some s → IsUsable l → IsUsable (put_in s l)
put-usable f s l h e k =
    let u : ArePieces (append s.before (more (workspace s.directory) s.behind)) = parts-usable f s h e in
    usable-linked (append s.before (more l s.behind))
    (usable-append s.before (more l s.behind) (usable-front s.before (more (workspace s.directory) s.behind) u)
    (usable-more l s.behind k (usable-tail (workspace s.directory) s.behind (usable-behind s.before (more (workspace s.directory) s.behind) u))))

pub with-usable : (f : Filter) (x : Option Leaf) → IsUsable f → IsUsable (with_leaf f x)
unfolding with_leaf
with-usable f x h = by (split f) refl
  where
    by : (o : Option Split) → split f ≡ o → IsUsable (option_map_or (λ s. put_in s (listed s.directory (leaf_items s.directory x))) o f)
    by None e = h
    by (Some s) e = put-usable f s (listed s.directory (leaf_items s.directory x)) h e (list-usable s.directory x (directory-path f s h e))

-- ---- the workspace place

pub lens : (f : Filter) → IsUsable f → IsLens (lens_of f)
lens f h = lens_law.lens f h.paths h.sound

pub file-path : (w : Path) → IsPath w → IsPath (w ++ file_name)
file-path w h = path-from (w ++ file_name) (full-behind w file_name refl) (valid-both w file_name (valid-path w h) refl)

pub place-path : (f : Filter) (p : Path) → IsUsable f → place f ≡ Some p → IsPath p
place-path f p h = by (split f) refl
  where
    by : (o : Option Split) → split f ≡ o → option_and_then (λ s. origin (chain s.before) (s.directory ++ file_name)) o ≡ Some p → IsPath p
    by None e k = absurd (none-some p k)
    by (Some s) e k = (lens (chain s.before) (usable-before f s h e)).origin_path p (s.directory ++ file_name) (file-path s.directory (directory-path f s h e)) k

at-option : (t : Flat) (o : Option Path) → at_rest t o ≡ option_and_then (at t) o
at-option t None = refl
at-option t (Some p) = refl

pub place-shown : (f : Filter) (s : Split) (t : Flat) → IsUsable f → split f ≡ Some s → IsTree t →
    at (seen_through (lens_of (chain s.before)) t) (s.directory ++ file_name) ≡ option_and_then (at t) (place f)
place-shown f s t h e v =
    let b : IsUsable (chain s.before) = usable-before f s h e in
    at-seen (lens_of (chain s.before)) (lens (chain s.before) b) t v.paths (s.directory ++ file_name) (file-path s.directory (directory-path f s h e))
    ∙ at-option t (origin (chain s.before) (s.directory ++ file_name))
    ∙ ap (λ o. option_and_then (at t) (option_and_then (λ z. origin (chain z.before) (z.directory ++ file_name)) o)) (sym e)
