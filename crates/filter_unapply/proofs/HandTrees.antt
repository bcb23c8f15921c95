-- The trees that laying makes are of the hand.
use Rattle.std.proofs.Common.{◌≡◌, ◌⊎◌, inl, inr, Bool, true, false, cond, List, [], ◌∷◌, ◌++◌, map, Option, Some, None, Contains, refl, sym, subst, ◌∙◌}
use Rattle.std.specs.List.{flat_map}
use Rattle.std.proofs.lemmas.Option.{none-some, same_Some}
use Rattle.std.proofs.lemmas.List.Elements.{Contains-append_left, Contains-append_right, Contains-push}
use Rattle.git_objects.specs.Lists.{Each}
use Rattle.git_objects.specs.Paths.{Bytes, Path, same_path}
use Rattle.git_objects.specs.Trees.{Leaf, Flat, at, under}
use Rattle.git_objects.proofs.Order.{path_decides}
use Rattle.git_objects.proofs.Under.{at-under, at-under_nil, under-tree}
use Rattle.object_store.specs.Hands.{IsComponentOf, IsLeafOf}
use Rattle.object_store.specs.Objects.{Object}
use Rattle.decision_lists.specs.Fronts.{and_then, or_else, proper, strip, whole}
use Rattle.decision_lists.proofs.Compile.{kept-is, left_out-is}
use Rattle.decision_lists.proofs.Strip.{proper-some, strip-is}
use Rattle.filter_routes.specs.Images.{image}
use Rattle.filter_routes.specs.Origins.{back_through, first_origin, origin}
use Rattle.filter_routes.proofs.TreeEntries.{each_entry}
use Rattle.filter_text.specs.Filters.{Filter, Filters, nop, sub, onto, dir, file, exclude, join, chain, workspace, no_more, more}
use Rattle.filter_unapply.specs.Hands.{IsComponentOfTwo, IsLaidMade, IsLeafOfTwo, IsMadeOf, IsNamedIn, IsNamedInAny}

-- ---- lists

here : {X : Type 0} (x : X) (xs : List X) → Contains (x ∷ xs) x
here x xs = Contains-append_left (x ∷ []) xs x (Contains-push [] x)

later : {X : Type 0} (x y : X) (xs : List X) → Contains xs y → Contains (x ∷ xs) y
later x y xs h = Contains-append_right (x ∷ []) xs y h

each-in : (C : Bytes → Type 0) (p : Path) → ((c : Bytes) → Contains p c → C c) → Each C p
each-in C [] f = tt
each-in C (c ∷ p) f = (f c (here c p), each-in C p (λ d h. f d (later c d p h)))

each-as : (C D : Bytes → Type 0) → ((c : Bytes) → C c → D c) → (p : Path) → Each C p → Each D p
each-as C D f [] h = tt
each-as C D f (c ∷ p) h = (f c h.0, each-as C D f p h.1)

each-both : (C : Bytes → Type 0) (p q : Path) → Each C p → Each C q → Each C (p ++ q)
each-both C [] q h g = g
each-both C (c ∷ p) q h g = (h.0, each-both C p q h.1 g)

each-behind : (C : Bytes → Type 0) (p q : Path) → Each C (p ++ q) → Each C q
each-behind C [] q h = h
each-behind C (c ∷ p) q h = each-behind C p q h.1

-- ---- leaves of a tree

tree-leaf : (t : Flat) (p : Path) (x : Leaf) → at t p ≡ Some x → IsLeafOf t x
tree-leaf [] p x e = absurd (none-some x e)
tree-leaf (d ∷ t) p x e = by (same_path p d.0) (λ g. tree-leaf t p x g) e
  where
    by : (b : Bool) → (at t p ≡ Some x → IsLeafOf t x) → cond b (Some d.1) (at t p) ≡ Some x → IsLeafOf (d ∷ t) x
    by true r g = subst (λ y. Contains (d.1 ∷ map (λ (e : Path × Leaf). e.1) t) y) (same_Some d.1 x g) (here d.1 (map (λ (e : Path × Leaf). e.1) t))
    by false r g = later d.1 x (map (λ (e : Path × Leaf). e.1) t) (r g)

tree-path : (t : Flat) (p : Path) (x : Leaf) → at t p ≡ Some x → Each (IsComponentOf t) p
tree-path [] p x e = absurd (none-some x e)
tree-path (d ∷ t) p x e = by (same_path p d.0) refl (λ g. tree-path t p x g) e
  where
    rest : List Bytes
    rest = flat_map (λ (e : Path × Leaf). e.0) t

    by : (b : Bool) → same_path p d.0 ≡ b → (at t p ≡ Some x → Each (IsComponentOf t) p) → cond b (Some d.1) (at t p) ≡ Some x → Each (IsComponentOf (d ∷ t)) p
    by true k r g = subst (λ (q : Path). Each (IsComponentOf (d ∷ t)) q) (sym ((path_decides p d.0).0 k)) (each-in (IsComponentOf (d ∷ t)) d.0 (λ c h. Contains-append_left d.0 rest c h))
    by false k r g = each-as (IsComponentOf t) (IsComponentOf (d ∷ t)) (λ c h. Contains-append_right d.0 rest c h) p (r g)

-- ---- origins

rest-of : (C : Bytes → Type 0) (a q p : Path) → Each C q → proper (strip a q) ≡ Some p → Each C p
rest-of C a q p h e = each-behind C a p (subst (λ (r : Path). Each C r) (strip-is a q p (proper-some (strip a q) p e)) h)

or_else-of : (C : Bytes → Type 0) (o v : Option Path) (p : Path) → (o ≡ Some p → Each C p) → (v ≡ Some p → Each C p) → or_else o v ≡ Some p → Each C p
or_else-of C None v p h k e = k e
or_else-of C (Some x) v p h k e = h e

and_then-of : (C : Bytes → Type 0) (o : Option Path) (g : Path → Option Path) (p : Path) → ((x : Path) → o ≡ Some x → g x ≡ Some p → Each C p) → and_then o g ≡ Some p → Each C p
and_then-of C None g p h e = absurd (none-some p e)
and_then-of C (Some x) g p h e = h x refl e

module _ (C : Bytes → Type 0) where
  mutual
    origin-of : (f : Filter) → ((c : Bytes) → IsNamedIn f c → C c) → (q p : Path) → Each C q → origin f q ≡ Some p → Each C p
    origin-of nop n q p h e = subst (λ (r : Path). Each C r) (same_Some q p e) h
    origin-of (sub a) n q p h e = subst (λ (r : Path). Each C r) (same_Some (a ++ q) p e) (each-both C a q (each-in C a n) h)
    origin-of (onto a) n q p h e = rest-of C a q p h e
    origin-of (dir a) n q p h e = subst (λ (r : Path). Each C r) (kept-is (proper (strip a q)) q p e) h
    origin-of (file a) n q p h e = subst (λ (r : Path). Each C r) (kept-is (whole (strip a q)) q p e) h
    origin-of (exclude f) n q p h e = subst (λ (r : Path). Each C r) (left_out-is (image f q) q p e) h
    origin-of (join fs) n q p h e = first-of fs n q p h e
    origin-of (chain fs) n q p h e = back-of fs n q p h e
    origin-of (workspace a) n q p h e = subst (λ (r : Path). Each C r) (same_Some (a ++ q) p e) (each-both C a q (each-in C a n) h)

    first-of : (fs : Filters) → ((c : Bytes) → IsNamedInAny fs c → C c) → (q p : Path) → Each C q → first_origin fs q ≡ Some p → Each C p
    first-of no_more n q p h e = absurd (none-some p e)
    first-of (more f fs) n q p h e = or_else-of C (origin f q) (first_origin fs q) p (origin-of f (λ c k. n c (inl k)) q p h) (first-of fs (λ c k. n c (inr k)) q p h) e

    back-of : (fs : Filters) → ((c : Bytes) → IsNamedInAny fs c → C c) → (q p : Path) → Each C q → back_through fs q ≡ Some p → Each C p
    back-of no_more n q p h e = subst (λ (r : Path). Each C r) (same_Some q p e) h
    back-of (more f fs) n q p h e =
        and_then-of C (back_through fs q) (origin f) p (λ x k l. origin-of f (λ c m. n c (inl m)) x p (back-of fs (λ c m. n c (inr m)) q x h k) l) e

-- ---- the hand

-- a leaf of the base or of what is pushed, at its own path or at its origin
abbrev pub IsKnown : Filter → Flat → Flat → Path → Leaf → Type 0
IsKnown f t n p x = (at t p ≡ Some x) ⊎ ((at n p ≡ Some x) ⊎ ((q : Path) × (origin f q ≡ Some p) × (at n q ≡ Some x)))

known-leaf : (f : Filter) (t n : Flat) (p : Path) (x : Leaf) → IsKnown f t n p x → IsLeafOfTwo t n x
known-leaf f t n p x (inl e) = inl (tree-leaf t p x e)
known-leaf f t n p x (inr (inl e)) = inr (tree-leaf n p x e)
known-leaf f t n p x (inr (inr h)) = inr (tree-leaf n h.0 x h.2)

known-path : (f : Filter) (t n : Flat) (p : Path) (x : Leaf) → IsKnown f t n p x → Each (IsComponentOfTwo f t n) p
known-path f t n p x (inl e) = each-as (IsComponentOf t) (IsComponentOfTwo f t n) (λ c h. inl h) p (tree-path t p x e)
known-path f t n p x (inr (inl e)) = each-as (IsComponentOf n) (IsComponentOfTwo f t n) (λ c h. inr (inl h)) p (tree-path n p x e)
known-path f t n p x (inr (inr h)) =
    origin-of (IsComponentOfTwo f t n) f (λ c k. inr (inr k)) h.0 p
    (each-as (IsComponentOf n) (IsComponentOfTwo f t n) (λ c k. inr (inl k)) h.0 (tree-path n h.0 x h.2)) h.1

pub laid-made : (f : Filter) (t n : Flat) (o : Object) → IsMadeOf (IsKnown f t n) o → IsLaidMade f t n o
laid-made f t n o h =
    let u : Flat = under h.tree h.above in
    let g = under-tree h.tree h.above h.is_tree in (
      u,
      record {
        tree = g;
        all_leaves = each_entry (λ d. IsLeafOfTwo t n d.1) u g.sorted (λ d e. known-leaf f t n (h.above ++ d.0) d.1 (known d.0 d.1 e));
        all_components = each_entry (λ d. Each (IsComponentOfTwo f t n) d.0) u g.sorted (λ d e. each-behind (IsComponentOfTwo f t n) h.above d.0 (known-path f t n (h.above ++ d.0) d.1 (known d.0 d.1 e)));
      },
      h.is_object,
    )
  where
    known : (r : Path) (x : Leaf) → at (under h.tree h.above) r ≡ Some x → IsKnown f t n (h.above ++ r) x
    known [] x e = absurd (none-some x (sym (at-under_nil h.tree h.above) ∙ e))
    known (c ∷ r) x e = h.all_known (h.above ++ c ∷ r) x (sym (at-under h.tree h.above c r) ∙ e)
