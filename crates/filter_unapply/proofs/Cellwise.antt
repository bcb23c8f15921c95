-- Paths and their images, cell by cell.
use Rattle.std.proofs.Common.{◌≡◌, ℕ, zero, suc, arith, ◌+◌, ◌<◌, Bool, true, false, cond, not, ◌&&◌, List, [], ◌∷◌, ◌++◌, drop, take, length, Option, Some, None, refl, sym, ap, ◌∙◌, true≢false}
use Rattle.std.proofs.lemmas.Option.{none-some}
use Rattle.std.proofs.lemmas.List.{take-append-drop}
use Rattle.std.specs.Prelude.{is_some, is_none, filter, slice_get}
use Rattle.std.specs.Option.{option_and_then, option_or}
use Rattle.git_objects.specs.Paths.{Path}
use Rattle.git_objects.specs.Trees.{Leaf, Flat, at}
use Rattle.git_objects.proofs.Maps.{at-where}
use Rattle.decision_lists.specs.Backward.{IsWayBack, cells_of, route_cells}
use Rattle.decision_lists.specs.Cells.{Cell, cells, cells_at, free_in, is_free, moved as moved_cone, origin, origin_at}
use Rattle.decision_lists.specs.Entries.{Cone, Entry, base, cone_of, decide, run, tail}
use Rattle.decision_lists.specs.Fronts.{or_else, proper, strip, whole}
use Rattle.decision_lists.specs.Operations.{heads}
use Rattle.decision_lists.proofs.Compile.{tail-is}
use Rattle.decision_lists.proofs.Locating.{free_is, origin-first}
use Rattle.decision_lists.proofs.Strip.{strip-self}
use Rattle.filter_unapply.specs.Routed.{forward, image_by, taken, unplaced}
use Rattle.filter_unapply.specs.Sifted.{sifted}
use Rattle.filter_unapply.specs.Moved.{moved}
use Rattle.filter_unapply.proofs.Fittings.{at-sifted}

-- ---- cells of a front of a list

cells_at-app : (c : Cone) (a : Option Path) (hs : List Cone) (ks ls : List Cell) → cells_at c a hs (ks ++ ls) ≡ cells_at c a hs ks ++ ls
cells_at-app c None hs ks ls = refl
cells_at-app c (Some t) hs ks ls = refl

pub cells-app : (xs ys : List Entry) (hs : List Cone) → cells hs (xs ++ ys) ≡ cells hs xs ++ cells (heads xs hs) ys
cells-app [] ys hs = refl
cells-app (e ∷ xs) ys hs = ap (cells_at e.0 e.1 hs) (cells-app xs ys (e.0 ∷ hs)) ∙ cells_at-app e.0 e.1 hs (cells (e.0 ∷ hs) xs) (cells (heads xs (e.0 ∷ hs)) ys)

pub cells-more : (es : List Entry) (i : ℕ) (e : Entry) → slice_get es i ≡ Some e → take (i + 1) es ≡ take i es ++ e ∷ [] → cells [] (take (i + 1) es) ≡ cells [] (take i es) ++ route_cells es i
cells-more es i e g t =
    ap (cells []) t ∙ cells-app (take i es) (e ∷ []) [] ∙ ap (λ o. cells [] (take i es) ++ cells_of o (heads (take i es) [])) (sym g)

pub cells-front : (es : List Entry) (i : ℕ) → i < length es → cells [] (take (i + 1) es) ≡ cells [] (take i es) ++ route_cells es i
cells-front es i l = by (slice_get es i) refl
  where
    none-there : (xs : List Entry) (j : ℕ) → j < length xs → slice_get xs j ≡ None → ⊥
    none-there [] j m e = absurd (omega (arith, m))
    none-there (x ∷ xs) zero m e = cc
    none-there (x ∷ xs) (suc j) m e = none-there xs j (omega (arith, m)) e

    front : (xs : List Entry) (j : ℕ) (e : Entry) → slice_get xs j ≡ Some e → take (suc j) xs ≡ take j xs ++ e ∷ []
    front [] j e g = cc
    front (x ∷ xs) zero e g = let same : x ≡ e = cc in ap (λ y. y ∷ []) same
    front (x ∷ xs) (suc j) e g = ap (λ ys. x ∷ ys) (front xs j e g)

    by : (o : Option Entry) → slice_get es i ≡ o → cells [] (take (i + 1) es) ≡ cells [] (take i es) ++ route_cells es i
    by None g = absurd (none-there es i l g)
    by (Some e) g = let j : i + 1 ≡ suc i = omega arith in cells-more es i e g (ap (λ k. take k es) j ∙ front es i e g)

-- ---- the way back

or-assoc : (a b c : Option Path) → or_else a (or_else b c) ≡ or_else (or_else a b) c
or-assoc None b c = refl
or-assoc (Some x) b c = refl

pub origin-app : (ks ls : List Cell) (q : Path) → origin (ks ++ ls) q ≡ or_else (origin ks q) (origin ls q)
origin-app [] ls q = refl
origin-app (k ∷ ks) ls q =
    origin-first k.0 (Some k.1) k.2 (ks ++ ls) q ∙ ap (or_else (origin (k ∷ []) q)) (origin-app ks ls q)
    ∙ or-assoc (origin (k ∷ []) q) (origin ks q) (origin ls q) ∙ ap (λ o. or_else o (origin ls q)) (sym (origin-first k.0 (Some k.1) k.2 ks q))

filter-twice : (f g h : Path × Leaf → Bool) → ((e : Path × Leaf) → (g e && f e) ≡ h e) → (t : Flat) → filter f (filter g t) ≡ filter h t
filter-twice f g h is [] = refl
filter-twice f g h is (e ∷ t) = by (g e) (is e) (filter-twice f g h is t)
  where
    by : (b : Bool) → (b && f e) ≡ h e → filter f (filter g t) ≡ filter h t → filter f (cond b (e ∷ filter g t) (filter g t)) ≡ cond (h e) (e ∷ filter h t) (filter h t)
    by true i r = (λ j. cond (i j) (e ∷ r j) (r j))
    by false i r = r ∙ ap (λ b. cond b (e ∷ filter h t) (filter h t)) i

none-both : (a b : Option Path) → (is_none a && is_none b) ≡ is_none (or_else a b)
none-both None b = refl
none-both (Some x) b = refl

-- one route more
pub unplaced-more : (ks ls : List Cell) (way : List Entry) (n : Flat) → IsWayBack way ls → sifted false way (unplaced ks n) ≡ unplaced (ks ++ ls) n
unplaced-more ks ls way n w =
    filter-twice (λ e. is_none (run None way e.0)) (λ e. is_none (origin ks e.0)) (λ e. is_none (origin (ks ++ ls) e.0))
    (λ e. ap (λ o. is_none (origin ks e.0) && is_none o) (w e.0) ∙ none-both (origin ks e.0) (origin ls e.0) ∙ ap is_none (sym (origin-app ks ls e.0))) n

pub unplaced-none : (n : Flat) → unplaced [] n ≡ n
unplaced-none [] = refl
unplaced-none (e ∷ n) = ap (λ t. e ∷ t) (unplaced-none n)

pub unplaced-in : (ks : List Cell) (n u : Flat) → u ≡ unplaced ks n → (p : Path) (x : Leaf) → at u p ≡ Some x → at n p ≡ Some x
unplaced-in ks n u e p x i = by (is_none (origin ks p)) (sym (at-where (λ q. is_none (origin ks q)) n p) ∙ ap (λ (v : Flat). at v p) (sym e) ∙ i)
  where
    by : (b : Bool) → cond b (at n p) None ≡ Some x → at n p ≡ Some x
    by true j = j
    by false j = absurd (none-some x j)

-- ---- the way forward

pub forward-app : (ks ls : List Cell) (p : Path) → forward (ks ++ ls) p ≡ or_else (forward ks p) (forward ls p)
forward-app [] ls p = refl
forward-app (k ∷ ks) ls p = ap (or_else (image_by k p)) (forward-app ks ls p) ∙ or-assoc (image_by k p) (forward ks p) (forward ls p)

decide-free : (b : Bool) (o : Option Path) (t : Path) → o ≡ None → cond b (decide o (Some t) None) None ≡ None
decide-free true o t e = ap (λ o. decide o (Some t) None) e
decide-free false o t e = refl

forward_at-none : (c : Cone) (a : Option Path) (hs : List Cone) (ks : List Cell) (p : Path) → tail c p ≡ None → forward (cells_at c a hs ks) p ≡ forward ks p
forward_at-none c None hs ks p e = refl
forward_at-none c (Some t) hs ks p e = ap (λ o. or_else o (forward ks p)) (decide-free (is_free hs p) (tail c p) t e)

forward_at-held : (c : Cone) (a : Option Path) (hs : List Cone) (ks : List Cell) (p : Path) → is_free hs p ≡ false → forward ks p ≡ None → forward (cells_at c a hs ks) p ≡ None
forward_at-held c None hs ks p f e = e
forward_at-held c (Some t) hs ks p f e = (λ i. or_else (cond (f i) (decide (tail c p) (Some t) None) None) (e i))

-- a path in a hole of all cells has no image
stuck-hole : (c : Cone) (hs : List Cone) (p : Path) → is_free hs p ≡ false → is_free (c ∷ hs) p ≡ false
stuck-hole c hs p f = ap (λ b. not (is_some (tail c p)) && b) f ∙ by (not (is_some (tail c p)))
  where
    by : (b : Bool) → (b && false) ≡ false
    by true = refl
    by false = refl

pub forward-stuck : (es : List Entry) (hs : List Cone) (p : Path) → is_free hs p ≡ false → forward (cells hs es) p ≡ None
forward-stuck [] hs p f = refl
forward-stuck (e ∷ es) hs p f = forward_at-held e.0 e.1 hs (cells (e.0 ∷ hs) es) p f (forward-stuck es (e.0 ∷ hs) p (stuck-hole e.0 hs p f))

-- a list's image is that of its cells
pub forward-is : (es : List Entry) (hs : List Cone) (p : Path) → is_free hs p ≡ true → forward (cells hs es) p ≡ run None es p
forward-is [] hs p f = refl
forward-is (e ∷ es) hs p f = by (tail e.0 p) refl (λ k. forward-is es (e.0 ∷ hs) p (ap (λ o. not (is_some o) && is_free hs p) k ∙ f))
  where
    by : (o : Option Path) → tail e.0 p ≡ o → (tail e.0 p ≡ None → forward (cells (e.0 ∷ hs) es) p ≡ run None es p) → forward (cells_at e.0 e.1 hs (cells (e.0 ∷ hs) es)) p ≡ decide (tail e.0 p) e.1 (run None es p)
    by None k later =
        forward_at-none e.0 e.1 hs (cells (e.0 ∷ hs) es) p k
        ∙ later k
        ∙ ap (λ o. decide o e.1 (run None es p)) (sym k)
    by (Some r) k later =
        let stuck : forward (cells (e.0 ∷ hs) es) p ≡ None = forward-stuck es (e.0 ∷ hs) p (ap (λ o. not (is_some o) && is_free hs p) k) in
        at-target e.1 stuck ∙ ap (λ o. decide o e.1 (run None es p)) (sym k)
      where
        at-target : (a : Option Path) → forward (cells (e.0 ∷ hs) es) p ≡ None → forward (cells_at e.0 a hs (cells (e.0 ∷ hs) es)) p ≡ decide (Some r) a (run None es p)
        at-target None s = s
        at-target (Some t) s = (λ i. or_else (cond (f i) (decide (k i) (Some t) None) None) (s i))

-- a path that no entry has comes from no cell
forward-free : (es : List Entry) (hs : List Cone) (p : Path) → free_in es p ≡ true → forward (cells hs es) p ≡ None
forward-free [] hs p f = refl
forward-free (e ∷ es) hs p f = by (tail e.0 p) refl (λ g. forward-free es (e.0 ∷ hs) p g) f
  where
    by : (o : Option Path) → tail e.0 p ≡ o → (free_in es p ≡ true → forward (cells (e.0 ∷ hs) es) p ≡ None) → (not (is_some o) && free_in es p) ≡ true → forward (cells_at e.0 e.1 hs (cells (e.0 ∷ hs) es)) p ≡ None
    by None k later g = forward_at-none e.0 e.1 hs (cells (e.0 ∷ hs) es) p k ∙ later g
    by (Some r) k later g = absurd (true≢false (sym g))

-- no path is in two cells
pub forward-once : (xs : List Entry) (o : Option Entry) (p : Path) → is_some (forward (cells_of o (heads xs [])) p) ≡ true → forward (cells [] xs) p ≡ None
forward-once xs None p e = absurd (true≢false (sym e))
forward-once xs (Some d) p e = at-entry d.1 e
  where
    with-free : (b : Bool) (t : Path) → is_free (heads xs []) p ≡ b → is_some (or_else (cond b (decide (tail d.0 p) (Some t) None) None) None) ≡ true → forward (cells [] xs) p ≡ None
    with-free true t k g = forward-free xs [] p (sym (free_is xs p) ∙ k)
    with-free false t k g = absurd (true≢false (sym g))

    at-entry : (a : Option Path) → is_some (forward (cells_at d.0 a (heads xs []) []) p) ≡ true → forward (cells [] xs) p ≡ None
    at-entry None g = absurd (true≢false (sym g))
    at-entry (Some t) g = with-free (is_free (heads xs []) p) t refl g

-- ---- one route's part of a pushed tree

or-nothing : (o : Option Path) → or_else o None ≡ o
or-nothing None = refl
or-nothing (Some x) = refl

moved-tail : (b : Bool) (s t : Path) (p r : Path) → tail (cone_of b s) p ≡ Some r → tail (cone_of b t) (t ++ r) ≡ Some r
moved-tail true s t p r e = by (strip s p) e
  where
    by : (o : Option Path) → whole o ≡ Some r → whole (strip t (t ++ r)) ≡ Some r
    by None i = absurd (none-some r i)
    by (Some []) i = ap (λ o. whole o) (strip-self t r) ∙ ap (λ q. whole (Some q)) (nil r i) ∙ i
      where
        nil : (r : Path) → whole (Some []) ≡ Some r → r ≡ []
        nil [] i = refl
        nil (c ∷ r) i = cc
    by (Some (c ∷ q)) i = absurd (none-some r i)
moved-tail false s t p r e = by (strip s p) e
  where
    by : (o : Option Path) → proper o ≡ Some r → proper (strip t (t ++ r)) ≡ Some r
    by None i = absurd (none-some r i)
    by (Some []) i = absurd (none-some r i)
    by (Some (c ∷ q)) i = let same : c ∷ q ≡ r = cc in ap proper (strip-self t r) ∙ ap (λ x. proper (Some x)) (sym same) ∙ i

cone-base : (b : Bool) (s : Path) → base (cone_of b s) ≡ s
cone-base true s = refl
cone-base false s = refl

cone-moved : (b : Bool) (s t : Path) → moved_cone (cone_of b s) t ≡ cone_of b t
cone-moved true s t = refl
cone-moved false s t = refl

module _ (b : Bool) (s t : Path) (hs : List Cone) (way : List Entry) (w : IsWayBack way (cells_at (cone_of b s) (Some t) hs [])) (n : Flat) where
  way-at : (q : Path) → run None way q ≡ origin_at q (cone_of b s, t, hs) (tail (cone_of b t) q) None
  way-at q = w q ∙ ap (λ c. origin_at q (cone_of b s, t, hs) (tail c q) None) (cone-moved b s t)

  -- what is inside lies at or below the target
  pub inside-cone : (q : Path) (x : Leaf) → at (sifted true way n) q ≡ Some x → is_some (tail (cone_of b t) q) ≡ true
  inside-cone q x e = by (tail (cone_of b t) q) (sym (ap (λ o. cond (is_some o) (at n q) None) (way-at q)) ∙ sym (at-sifted true way n q) ∙ e)
    where
      by : (o : Option Path) → cond (is_some (origin_at q (cone_of b s, t, hs) o None)) (at n q) None ≡ Some x → is_some o ≡ true
      by None i = absurd (none-some x i)
      by (Some r) i = refl

  pub part-leaves : (p : Path) → moved b t s (sifted true way n) p ≡ taken (cells_at (cone_of b s) (Some t) hs []) n p
  part-leaves p = by (tail (cone_of b s) p) refl
    where
      free-at : (r : Path) (v : Bool) → is_free hs p ≡ v → is_some (cond v (Some (s ++ r)) None) ≡ v
      free-at r true e = refl
      free-at r false e = refl

      both : (r : Path) (v : Bool) → cond (is_some (cond v (Some (s ++ r)) None)) (at n (t ++ r)) None ≡ option_and_then (at n) (or_else (cond v (Some (t ++ r)) None) None)
      both r true = refl
      both r false = refl

      by : (o : Option Path) → tail (cone_of b s) p ≡ o →
          option_and_then (at (sifted true way n)) (decide (tail (cone_of b s) p) (Some t) None) ≡ option_and_then (at n) (or_else (cond (is_free hs p) (decide (tail (cone_of b s) p) (Some t) None) None) None)
      by None k =
          ap (λ o. option_and_then (at (sifted true way n)) (decide o (Some t) None)) k
          ∙ nothing (is_free hs p)
          ∙ ap (λ o. option_and_then (at n) (or_else (cond (is_free hs p) (decide o (Some t) None) None) None)) (sym k)
        where
          nothing : (v : Bool) → None ≡ option_and_then (at n) (or_else (cond v None None) None)
          nothing true = refl
          nothing false = refl
      by (Some r) k =
          let here : s ++ r ≡ p = sym (tail-is (cone_of b s) p r k ∙ ap (λ a. a ++ r) (cone-base b s)) in
          ap (λ o. option_and_then (at (sifted true way n)) (decide o (Some t) None)) k
          ∙ at-sifted true way n (t ++ r)
          ∙ ap (λ o. cond (is_some o) (at n (t ++ r)) None)
          (way-at (t ++ r) ∙ ap (λ o. origin_at (t ++ r) (cone_of b s, t, hs) o None) (moved-tail b s t p r k)
          ∙ ap (λ a. cond (is_free hs (a ++ r)) (Some (a ++ r)) None) (cone-base b s)
          ∙ ap (λ v. cond (is_free hs v) (Some (s ++ r)) None) here)
          ∙ both r (is_free hs p)
          ∙ ap (λ o. option_and_then (at n) (or_else (cond (is_free hs p) (decide o (Some t) None) None) None)) (sym k)

-- ---- one cell among all

pub forward-front : (es : List Entry) (i : ℕ) (p q : Path) → forward (cells [] (take i es)) p ≡ Some q → forward (cells [] es) p ≡ Some q
forward-front es i p q e =
    ap (λ l. forward (cells [] l) p) (sym (take-append-drop i es))
    ∙ ap (λ ks. forward ks p) (cells-app (take i es) (drop i es) [])
    ∙ forward-app (cells [] (take i es)) (cells (heads (take i es) []) (drop i es)) p
    ∙ ap (λ o. or_else o (forward (cells (heads (take i es) []) (drop i es)) p)) e

pub forward-more : (es : List Entry) (i : ℕ) (p : Path) → i < length es → forward (cells [] (take (i + 1) es)) p ≡ or_else (forward (cells [] (take i es)) p) (forward (route_cells es i) p)
forward-more es i p l = ap (λ ks. forward ks p) (cells-front es i l) ∙ forward-app (cells [] (take i es)) (route_cells es i) p

-- a path of one route is in none before it
pub route-alone : (es : List Entry) (i : ℕ) (p q : Path) → forward (route_cells es i) p ≡ Some q → forward (cells [] (take i es)) p ≡ None
route-alone es i p q e = forward-once (take i es) (slice_get es i) p (ap is_some e)

pub forward-whole : (es : List Entry) (i : ℕ) (p q : Path) → i < length es → forward (route_cells es i) p ≡ Some q → forward (cells [] es) p ≡ Some q
forward-whole es i p q l e =
    forward-front es (i + 1) p q (forward-more es i p l ∙ ap (λ o. or_else o (forward (route_cells es i) p)) (route-alone es i p q e) ∙ e)

-- what is taken by one route more
pub taken-more : (es : List Entry) (i : ℕ) (n : Flat) (p : Path) → i < length es → taken (cells [] (take (i + 1) es)) n p ≡ option_or (taken (cells [] (take i es)) n p) (taken (route_cells es i) n p)
taken-more es i n p l = ap (option_and_then (at n)) (forward-more es i p l) ∙ by (forward (route_cells es i) p) refl
  where
    left : (o : Option Path) → option_and_then (at n) (or_else o None) ≡ option_or (option_and_then (at n) o) None
    left None = refl
    left (Some q) = by (at n q)
      where
        by : (x : Option Leaf) → x ≡ option_or x None
        by None = refl
        by (Some y) = refl

    by : (o : Option Path) → forward (route_cells es i) p ≡ o → option_and_then (at n) (or_else (forward (cells [] (take i es)) p) (forward (route_cells es i) p)) ≡ option_or (taken (cells [] (take i es)) n p) (taken (route_cells es i) n p)
    by None k =
        ap (λ o. option_and_then (at n) (or_else (forward (cells [] (take i es)) p) o)) k ∙ left (forward (cells [] (take i es)) p)
        ∙ ap (λ o. option_or (taken (cells [] (take i es)) n p) (option_and_then (at n) o)) (sym k)
    by (Some q) k =
        ap (λ o. option_and_then (at n) (or_else o (forward (route_cells es i) p))) (route-alone es i p q k)
        ∙ ap (λ o. option_or (option_and_then (at n) o) (taken (route_cells es i) n p)) (sym (route-alone es i p q k))
