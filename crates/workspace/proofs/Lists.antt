-- Members of the list that takes a workspace's place.
use Rattle.std.specs.Prelude.{◌≡◌, refl, ℕ, ◌+◌, ◌<◌, ◌≤◌, List, [], ◌∷◌, ◌++◌, length, take, map, flat_map, Result, Ok, Err, OnOk}
use Rattle.std.proofs.Common.{ap, ◌∙◌, sym, get_or, arith}
use Rattle.std.proofs.lemmas.List.{take_more, length-take-le}
use Rattle.filter_text.proofs.Files.{values-push}
use Rattle.git_objects.specs.Paths.{Bytes, Path}
use Rattle.filter_text.specs.Filters.{Filter, Filters, no_more, more, append, only, file}
use Rattle.filter_text.specs.Items.{Item}
use Rattle.filter_text.specs.Views.{item_value, item_values}
use Rattle.filter_text.specs.declared.filter.Item as code
use Rattle.workspace.specs.Workspaces.{around, filters_of, fronts}

pub append-again : (fs gs hs : Filters) → append (append fs gs) hs ≡ append fs (append gs hs)
append-again no_more gs hs = refl
append-again (more f fs) gs hs = ap (more f) (append-again fs gs hs)

pub filters-append : (xs ys : List Filter) → filters_of (xs ++ ys) ≡ append (filters_of xs) (filters_of ys)
filters-append [] ys = refl
filters-append (x ∷ xs) ys = ap (more x) (filters-append xs ys)

map-append : {A B : Type 0} (f : A → B) (xs ys : List A) → map f (xs ++ ys) ≡ map f xs ++ map f ys
map-append f [] ys = refl
map-append f (x ∷ xs) ys = ap (λ zs. f x ∷ zs) (map-append f xs ys)

-- ---- fronts

longer-fronts : (d : Bytes) (p : Path) (c : Bytes) → fronts (d ∷ p ++ c ∷ []) ≡ fronts (d ∷ p) ++ (d ∷ p) ∷ []
longer-fronts d [] c = refl
longer-fronts d (e ∷ p) c =
    ap (λ (qs : List Path). (d ∷ []) ∷ map (λ q. d ∷ q) qs) (longer-fronts e p c)
    ∙ ap (λ (qs : List Path). (d ∷ []) ∷ qs) (map-append (λ q. d ∷ q) (fronts (e ∷ p)) ((e ∷ p) ∷ []))

next-front : (p : Path) (c : Bytes) → 1 ≤ length p → fronts (p ++ c ∷ []) ≡ fronts p ++ p ∷ []
next-front [] c h = absurd (omega (arith, h))
next-front (d ∷ p) c h = longer-fronts d p c

-- one front more, as members of a filter
pub fronts-more : (p : Path) (n : ℕ) → 1 ≤ n → n < length p
    → filters_of (map file (fronts (take (n + 1) p))) ≡ append (filters_of (map file (fronts (take n p)))) (only (file (take n p)))
fronts-more p n h l =
    ap (λ q. filters_of (map file (fronts q))) (take_more p n [] l)
    ∙ ap (λ qs. filters_of (map file qs)) (next-front (take n p) (get_or p n []) (omega (arith, h, l, length-take-le n p (omega (arith, l)))))
    ∙ ap filters_of (map-append file (fronts (take n p)) (take n p ∷ []))
    ∙ filters-append (map file (fronts (take n p))) (file (take n p) ∷ [])

pub no-front : (p : Path) → fronts (take 1 p) ≡ []
no-front [] = refl
no-front (c ∷ p) = refl

-- ---- items

pub values-next : (is : List code.Item) (i : ℕ) (x : code.Item) → i < length is → x ≡ get_or is i x → item_values (take (i + 1) is) ≡ item_values (take i is) ++ item_value x ∷ []
values-next is i x l e = values-push (take i is) (take (i + 1) is) x (take_more is i x l ∙ ap (λ y. take i is ++ y ∷ []) (sym e))

pub append-nil : {A : Type 0} (xs : List A) → xs ++ [] ≡ xs
append-nil [] = refl
append-nil (x ∷ xs) = ap (λ ys. x ∷ ys) (append-nil xs)

append-assoc : {A : Type 0} (xs ys zs : List A) → (xs ++ ys) ++ zs ≡ xs ++ (ys ++ zs)
append-assoc [] ys zs = refl
append-assoc (x ∷ xs) ys zs = ap (λ us. x ∷ us) (append-assoc xs ys zs)

flat-next : {A B : Type 0} (g : A → List B) (xs : List A) (x : A) → flat_map g (xs ++ x ∷ []) ≡ flat_map g xs ++ g x
flat-next g [] x = append-nil (g x)
flat-next g (y ∷ xs) x = ap (λ zs. g y ++ zs) (flat-next g xs x) ∙ sym (append-assoc (g y) (flat_map g xs) (g x))

pub around-more : (vs : List Item) (v : Item) → filters_of (flat_map (λ i. around i.0) (vs ++ v ∷ [])) ≡ append (filters_of (flat_map (λ i. around i.0) vs)) (filters_of (around v.0))
around-more vs v = ap filters_of (flat-next (λ i. around i.0) vs v) ∙ filters-append (flat_map (λ i. around i.0) vs) (around v.0)

pub branches-more : (vs : List Item) (v : Item) → filters_of (map (λ i. i.1) (vs ++ v ∷ [])) ≡ append (filters_of (map (λ i. i.1) vs)) (only v.1)
branches-more vs v = ap filters_of (map-append (λ i. i.1) vs (v ∷ [])) ∙ filters-append (map (λ i. i.1) vs) (v.1 ∷ [])

-- ---- results

pub on-ok : {A E : Type 0} {P Q : Type 0} (r : Result A E) → (P → Q) → OnOk r P → OnOk r Q
on-ok (Ok x) f h = f h
on-ok (Err e) f h = h
