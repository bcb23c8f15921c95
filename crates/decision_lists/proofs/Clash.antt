-- When two cells meet, or have comparable images: a finite test, and that it is exact.
use Rattle.std.specs.Prelude.{◌≡◌, refl, ℕ, ◌+◌, ◌<◌, ◌≤◌, List, [], ◌∷◌, ◌++◌, length, Option, Some, None, cond, Bool, true, false, not, ◌&&◌, ◌||◌, ◌⊎◌, ⊤, is_some}
use Rattle.std.proofs.Common.{append-nil, ap, ap₂, append_assoc, ◌∙◌, sym, true≢false, inl, inr, subst, arith}
use Rattle.std.proofs.lemmas.Bool.{or_cases, or_left, or_right, and_parts, and_from}
use Rattle.std.proofs.lemmas.Option.{none-some}
use Rattle.std.specs.List.{list_all}
use Rattle.decision_lists.proofs.Compile.{full-behind, proper-full, tail-is}
use Rattle.decision_lists.proofs.Strip.{strip-is, strip-past, strip-self, whole-some}
use Rattle.decision_lists.proofs.Valid.{path-from, valid-both, valid-rest}
use Rattle.decision_lists.specs.Cells.{Cell, clashes, overlaps, reaches, reaches_at, touches}
use Rattle.decision_lists.specs.Entries.{Cone, at, base, below, tail}
use Rattle.decision_lists.specs.Fronts.{proper, strip, whole}
use Rattle.decision_lists.specs.Lists.{Full, IsPath, Solid, Valid}
use Rattle.decision_lists.specs.Operations.{alive, covers}
use Rattle.git_objects.specs.Paths.{Path, is_component, same_bytes}

-- no cone of the list has p
abbrev pub Free : List Cone → Path → Type 0
Free [] p = ⊤
Free (h ∷ hs) p = (tail h p ≡ None) × Free hs p

abbrev pub InCell : Cell → Path → Path → Type 0
InCell k p r = (tail k.0 p ≡ Some r) × Free k.2 p

abbrev pub Comparable : Path → Path → Type 0
Comparable x y = ((w : Path) × (y ≡ x ++ w)) ⊎ ((w : Path) × (x ≡ y ++ w))

-- the cells have one path, or two paths with comparable images
pub record CellClash (k l : Cell) : Type 0 where
  pub p : Path
  pub q : Path
  pub r : Path
  pub r' : Path
  pub path_p : IsPath p
  pub path_q : IsPath q
  pub in_k : InCell k p r
  pub in_l : InCell l q r'
  pub meet : (p ≡ q) ⊎ Comparable (k.1 ++ r) (l.1 ++ r')

-- ---- a clash makes the test true

pub split : {A B C : Type 0} → (A → C) → (B → C) → A ⊎ B → C
split f g (inl a) = f a
split f g (inr b) = g b

pub is_some-none : (o : Option Path) → is_some o ≡ true → o ≡ None → ⊥
is_some-none None e f = true≢false (sym e)
is_some-none (Some r) e f = none-some r (sym f)

pub is_some-got : (o : Option Path) → is_some o ≡ true → (r : Path) × (o ≡ Some r)
is_some-got None e = absurd (true≢false (sym e))
is_some-got (Some r) e = (r, refl)

is_some-not : (o : Option Path) → is_some o ≡ false → o ≡ None
is_some-not None e = refl
is_some-not (Some r) e = absurd (true≢false e)

pub is_some-is : (o : Option Path) (r : Path) → o ≡ Some r → is_some o ≡ true
is_some-is o r e = ap is_some e

at-is : (u p r : Path) → tail (at u) p ≡ Some r → p ≡ u
at-is u p r e =
    let h : (strip u p ≡ Some []) × (r ≡ []) = whole-some (strip u p) r e in
    strip-is u p [] h.0 ∙ append-nil u

-- what lies in m lies in a cone that has all of m
pub covers-has : (h m : Cone) (p r : Path) → covers h m ≡ true → tail m p ≡ Some r → tail h p ≡ None → ⊥
covers-has h (at u) p r e f g = is_some-none (tail h u) e (ap (tail h) (sym (at-is u p r f)) ∙ g)
covers-has (at s) (below u) p r e f g = true≢false (sym e)
covers-has (below s) (below u) p r e f g =
    let w : (w : Path) × (strip s u ≡ Some w) = is_some-got (strip s u) e in
    let there : p ≡ (s ++ w.0) ++ r = tail-is (below u) p r f ∙ ap (λ x. x ++ r) (strip-is s u w.0 w.1) in
    none-some (w.0 ++ r) (sym g ∙ ap (λ x. proper (strip s x)) there ∙ ap proper (strip-past s w.0 r) ∙ full-behind w.0 r (proper-full (strip u p) r f))

pub alive-at : (b c : Bool) → (b ≡ true → ⊥) → c ≡ true → (not b && c) ≡ true
alive-at true c f e = absurd (f refl)
alive-at false c f e = e

pub alive-from : (hs : List Cone) (m : Cone) (p r : Path) → tail m p ≡ Some r → Free hs p → alive hs m ≡ true
alive-from [] m p r e f = refl
alive-from (h ∷ hs) m p r e f = alive-at (covers h m) (alive hs m) (λ k. covers-has h m p r k e f.0) (alive-from hs m p r e f.1)

-- of two cones with a common path one has all of the other
head : Path → List ℕ
head [] = []
head (c ∷ s) = c

rest : Path → Path
rest [] = []
rest (c ∷ s) = s

head-is : (c d : List ℕ) (s u : Path) → c ∷ s ≡ d ∷ u → c ≡ d
unfolding head
head-is c d s u e = ap head e

rest-is : (c d : List ℕ) (s u : Path) → c ∷ s ≡ d ∷ u → s ≡ u
unfolding rest
rest-is c d s u e = ap rest e

abbrev pub Fronts : Path → Path → Path → Path → Type 0
Fronts s u r r' = ((v : Path) × (u ≡ s ++ v) × (r ≡ v ++ r')) ⊎ ((v : Path) × (s ≡ u ++ v) × (r' ≡ v ++ r))

fronts-more : (c d : List ℕ) (s u r r' : Path) → c ≡ d → Fronts s u r r' → Fronts (c ∷ s) (d ∷ u) r r'
fronts-more c d s u r r' e (inl h) = inl (h.0, ap₂ (λ x y. x ∷ y) (sym e) h.1, h.2)
fronts-more c d s u r r' e (inr h) = inr (h.0, ap₂ (λ x y. x ∷ y) e h.1, h.2)

pub fronts : (s u r r' : Path) → s ++ r ≡ u ++ r' → Fronts s u r r'
fronts [] u r r' e = inl (u, refl, e)
fronts (c ∷ s) [] r r' e = inr (c ∷ s, refl, sym e)
fronts (c ∷ s) (d ∷ u) r r' e =
    fronts-more c d s u r r' (head-is c d (s ++ r) (u ++ r') e) (fronts s u r r' (rest-is c d (s ++ r) (u ++ r') e))

below-covers : (s u v : Path) → u ≡ s ++ v → covers (below s) (below u) ≡ true
below-covers s u v e = is_some-is (strip s u) v (ap (strip s) e ∙ strip-self s v)

pub nested : (c d : Cone) (p r r' : Path) → tail c p ≡ Some r → tail d p ≡ Some r' → (covers c d ≡ true) ⊎ (covers d c ≡ true)
nested c (at u) p r r' e f = inl (is_some-is (tail c u) r (ap (tail c) (sym (at-is u p r' f)) ∙ e))
nested (at s) (below u) p r r' e f = inr (is_some-is (tail (below u) s) r' (ap (tail (below u)) (sym (at-is s p r e)) ∙ f))
nested (below s) (below u) p r r' e f =
    split
    (λ h. inl (below-covers s u h.0 h.1)) (λ h. inr (below-covers u s h.0 h.1))
    (fronts s u r r' (sym (tail-is (below s) p r e) ∙ tail-is (below u) p r' f))

overlaps-from : (k l : Cell) (p r r' : Path) → InCell k p r → InCell l p r' → (overlaps k l || overlaps l k) ≡ true
overlaps-from k l p r r' a b =
    split
    (λ h. or_left (overlaps k l) (overlaps l k) (and_from (covers k.0 l.0) (alive k.2 l.0) h (alive-from k.2 l.0 p r' b.0 a.1)))
    (λ h. or_right (overlaps k l) (overlaps l k) (and_from (covers l.0 k.0) (alive l.2 k.0) h (alive-from l.2 k.0 p r a.0 b.1)))
    (nested k.0 l.0 p r r' a.0 b.0)

pub below-has : (s r : Path) → Full r → tail (below s) (s ++ r) ≡ Some r
below-has s r n = ap proper (strip-self s r) ∙ n

pub at-has : (s : Path) → tail (at s) s ≡ Some []
at-has s = ap (λ x. whole (strip s x)) (sym (append-nil s)) ∙ ap whole (strip-self s [])

-- a free path s ++ r, where r is comparable with v ++ r2
comparable-more : (c d : List ℕ) (r x : Path) → Comparable (c ∷ r) (d ∷ x) → (c ≡ d) × Comparable r x
comparable-more c d r x (inl h) = (sym (head-is d c x (r ++ h.0) h.1), inl (h.0, rest-is d c x (r ++ h.0) h.1))
comparable-more c d r x (inr h) = (head-is c d r (x ++ h.0) h.1, inr (h.0, rest-is c d r (x ++ h.0) h.1))

touches-from : (v s : Path) (hs : List Cone) (r r2 : Path) → Full r → Free hs (s ++ r) → Comparable r (v ++ r2) → touches s hs v ≡ true
touches-from [] s hs r r2 n f h = alive-from hs (below s) (s ++ r) r (below-has s r n) f
touches-from (c ∷ v) s hs [] r2 n f h = absurd (none-some [] n)
touches-from (c ∷ v) s hs (d ∷ []) r2 n f h =
    let e : (d ≡ c) × Comparable [] (v ++ r2) = comparable-more d c [] (v ++ r2) h in
    or_left (alive hs (at (s ++ c ∷ []))) (touches (s ++ c ∷ []) hs v)
    (alive-from hs (at (s ++ c ∷ [])) (s ++ c ∷ []) [] (at-has (s ++ c ∷ [])) (subst (λ x. Free hs (s ++ x ∷ [])) e.0 f))
touches-from (c ∷ v) s hs (d ∷ b ∷ r) r2 n f h =
    let e : (d ≡ c) × Comparable (b ∷ r) (v ++ r2) = comparable-more d c (b ∷ r) (v ++ r2) h in
    or_right (alive hs (at (s ++ c ∷ []))) (touches (s ++ c ∷ []) hs v)
    (touches-from v (s ++ c ∷ []) hs (b ∷ r) r2 refl
    (subst (Free hs) (sym (append_assoc s (c ∷ []) (b ∷ r))) (subst (λ x. Free hs (s ++ x ∷ b ∷ r)) e.0 f)) e.1)

reaches_at-from : (c : Cone) (hs : List Cone) (v p r r2 : Path) → tail c p ≡ Some r → Free hs p → Comparable r (v ++ r2) → reaches_at c hs (Some v) ≡ true
reaches_at-from (at s) hs v p r r2 e f h = refl
reaches_at-from (below s) hs v p r r2 e f h =
    touches-from v s hs r r2 (proper-full (strip s p) r e) (subst (Free hs) (tail-is (below s) p r e) f) h

-- comparable lists with fronts t and t2: one front begins with the other
pub comparable-in : (t x y : Path) → Comparable (t ++ x) (t ++ y) → Comparable x y
comparable-in [] x y h = h
comparable-in (c ∷ t) x y h = comparable-in t x y (comparable-more c c (t ++ x) (t ++ y) h).1

pub comparable-sym : (x y : Path) → Comparable x y → Comparable y x
comparable-sym x y (inl h) = inr h
comparable-sym x y (inr h) = inl h

comparable-fronts : (t u x y : Path) → Comparable (t ++ x) (u ++ y) → ((v : Path) × (u ≡ t ++ v)) ⊎ ((v : Path) × (t ≡ u ++ v))
comparable-fronts t u x y (inl h) =
    split
    (λ k. inr (k.0, k.1)) (λ k. inl (k.0, k.1)) (fronts u t y (x ++ h.0) (h.1 ∙ append_assoc t x h.0))
comparable-fronts t u x y (inr h) =
    split
    (λ k. inl (k.0, k.1)) (λ k. inr (k.0, k.1)) (fronts t u x (y ++ h.0) (h.1 ∙ append_assoc u y h.0))

reaches-from : (k l : Cell) (p q r r' : Path) → InCell k p r → InCell l q r' → (v : Path) → l.1 ≡ k.1 ++ v → Comparable (k.1 ++ r) (l.1 ++ r') → reaches k l ≡ true
reaches-from k l p q r r' a b v e h =
    ap (reaches_at k.0 k.2) (ap (strip k.1) e ∙ strip-self k.1 v)
    ∙ reaches_at-from k.0 k.2 v p r r' a.0 a.1
    (comparable-in k.1 r (v ++ r') (subst (Comparable (k.1 ++ r)) (ap (λ x. x ++ r') e ∙ append_assoc k.1 v r') h))

pub clashes-from : (k l : Cell) → CellClash k l → clashes k l ≡ true
clashes-from k l h =
    split
    (λ e. or_left (overlaps k l || overlaps l k) (reaches k l || reaches l k)
    (overlaps-from k l h.p h.r h.r' h.in_k (subst (λ x. InCell l x h.r') (sym e) h.in_l)))
    (λ c. or_right (overlaps k l || overlaps l k) (reaches k l || reaches l k)
    (split
    (λ f. or_left (reaches k l) (reaches l k) (reaches-from k l h.p h.q h.r h.r' h.in_k h.in_l f.0 f.1 c))
    (λ f. or_right (reaches k l) (reaches l k)
    (reaches-from l k h.q h.p h.r' h.r h.in_l h.in_k f.0 f.1 (comparable-sym (k.1 ++ h.r) (l.1 ++ h.r') c)))
    (comparable-fronts k.1 l.1 h.r h.r' c)))
    h.meet

-- ---- where the test is true there is a clash, by a component that no hole names

abbrev pub size : Path → ℕ
size [] = 0
size (c ∷ s) = length c + size s

-- no cone's base has a component as long as x
abbrev pub Fresh : List ℕ → List Cone → Type 0
Fresh x [] = ⊤
Fresh x (h ∷ hs) = (size (base h) < length x) × Fresh x hs

size-end : (u : Path) (x : List ℕ) → length x ≤ size (u ++ x ∷ [])
size-end [] x = omega arith
size-end (c ∷ u) x = omega (arith, size-end u x)

abbrev pub pick : Cone → List ℕ → Path
pick (at u) x = u
pick (below u) x = u ++ x ∷ []

abbrev pub pick_rest : Cone → List ℕ → Path
pick_rest (at u) x = []
pick_rest (below u) x = x ∷ []

pick-in : (m : Cone) (x : List ℕ) → tail m (pick m x) ≡ Some (pick_rest m x)
pick-in (at u) x = at-has u
pick-in (below u) x = below-has u (x ∷ []) refl

cond-none : (b : Bool) (o : Option Path) → o ≡ None → cond b o None ≡ None
cond-none true o e = e
cond-none false o e = refl

proper-cond : (b : Bool) (o o' : Option Path) → (o ≡ None → proper o' ≡ None) → cond b o None ≡ None → proper (cond b o' None) ≡ None
proper-cond true o o' f e = f e
proper-cond false o o' f e = refl

proper-short : (b : Bool) (s : Path) → proper (cond b (strip s []) None) ≡ None
proper-short true [] = refl
proper-short true (c ∷ s) = refl
proper-short false s = refl

-- a path one component longer than u isn't below what u isn't at or below
strip-short : (s u : Path) (x : List ℕ) → strip s u ≡ None → proper (strip s (u ++ x ∷ [])) ≡ None
strip-short [] u x e = absurd (none-some u (sym e))
strip-short (c ∷ s) [] x e = proper-short (same_bytes c x) s
strip-short (c ∷ s) (d ∷ u) x e = proper-cond (same_bytes c d) (strip s u) (strip s (u ++ x ∷ [])) (strip-short s u x) e

outside : (h m : Cone) (x : List ℕ) → covers h m ≡ false → size (base h) < length x → tail h (pick m x) ≡ None
outside h (at u) x e f = is_some-not (tail h u) e
outside (below s) (below u) x e f = strip-short s u x (is_some-not (strip s u) e)
outside (at s) (below u) x e f = none-at (whole (strip s (u ++ x ∷ []))) refl
  where
    none-at : (o : Option Path) → whole (strip s (u ++ x ∷ [])) ≡ o → o ≡ None
    none-at None h = refl
    none-at (Some r) h =
        let e : u ++ x ∷ [] ≡ s = at-is s (u ++ x ∷ []) r h in
        absurd (omega (arith, f, subst (λ y. length x ≤ size y) e (size-end u x)))

pub alive-parts : (b c : Bool) → (not b && c) ≡ true → (b ≡ false) × (c ≡ true)
alive-parts true c e = absurd (true≢false (sym e))
alive-parts false c e = (refl, e)

free-pick : (hs : List Cone) (m : Cone) (x : List ℕ) → alive hs m ≡ true → Fresh x hs → Free hs (pick m x)
free-pick [] m x e f = tt
free-pick (h ∷ hs) m x e f =
    let k : (covers h m ≡ false) × (alive hs m ≡ true) = alive-parts (covers h m) (alive hs m) e in
    (outside h m x k.0 f.0, free-pick hs m x k.1 f.1)

valid-one : (x : List ℕ) → is_component x ≡ true → Valid (x ∷ [])
valid-one x e = and_from (is_component x) true e refl

pick-full : (m : Cone) (x : List ℕ) → is_component x ≡ true → Solid m → IsPath (pick m x)
pick-full (at u) x c e = e
pick-full (below u) x c e = path-from (u ++ x ∷ []) (full-behind u (x ∷ []) refl) (valid-both u (x ∷ []) e (valid-one x c))

-- a cell that isn't empty, with a component that its holes don't name
pub record Sound (x : List ℕ) (k : Cell) : Type 0 where
  pub live : alive k.2 k.0 ≡ true
  pub fresh : Fresh x k.2
  pub solid : Solid k.0
  pub part : is_component x ≡ true
  pub aim : Valid k.1

got : (o : Option Path) → (o ≡ None → ⊥) → (r : Path) × (o ≡ Some r)
got None f = absurd (f refl)
got (Some r) f = (r, refl)

pick-cell : (x : List ℕ) (k : Cell) → Sound x k → InCell k (pick k.0 x) (pick_rest k.0 x)
pick-cell x k g = (pick-in k.0 x, free-pick k.2 k.0 x g.live g.fresh)

overlaps-give : (x : List ℕ) (k l : Cell) → Sound x k → Sound x l → overlaps k l ≡ true → CellClash k l
overlaps-give x k l g h e =
    let b : (covers k.0 l.0 ≡ true) × (alive k.2 l.0 ≡ true) = and_parts (covers k.0 l.0) (alive k.2 l.0) e in
    let r : (r : Path) × (tail k.0 (pick l.0 x) ≡ Some r) = got (tail k.0 (pick l.0 x)) (covers-has k.0 l.0 (pick l.0 x) (pick_rest l.0 x) b.0 (pick-in l.0 x)) in
    record {
      p = pick l.0 x;
      q = pick l.0 x;
      r = r.0;
      r' = pick_rest l.0 x;
      path_p = pick-full l.0 x h.part h.solid;
      path_q = pick-full l.0 x h.part h.solid;
      in_k = (r.1, free-pick k.2 l.0 x b.1 g.fresh);
      in_l = pick-cell x l h;
      meet = inl refl;
    }

-- what `touches` finds: a free path s ++ r with r at a front of v, or v and x
abbrev Touch : Path → List Cone → Path → List ℕ → Path → Type 0
Touch s hs v x r = (Full r × Valid r) × Free hs (s ++ r) × (((w : Path) × (v ≡ r ++ w)) ⊎ (r ≡ v ++ x ∷ []))

touch-more : (s : Path) (hs : List Cone) (c : List ℕ) (v : Path) (x : List ℕ) (r : Path) → is_component c ≡ true → Touch (s ++ c ∷ []) hs v x r → Touch s hs (c ∷ v) x (c ∷ r)
touch-more s hs c v x r w t = (
  (refl, and_from (is_component c) (list_all is_component r) w t.0.1),
  subst (Free hs) (append_assoc s (c ∷ []) r) t.1,
  split (λ h. inl (h.0, ap (λ y. c ∷ y) h.1)) (λ h. inr (ap (λ y. c ∷ y) h)) t.2,
)

touches-give : (v s : Path) (hs : List Cone) (x : List ℕ) → is_component x ≡ true → Valid v → Fresh x hs → touches s hs v ≡ true → (r : Path) × Touch s hs v x r
touches-give [] s hs x i n f e = (x ∷ [], ((refl, valid-one x i), free-pick hs (below s) x e f, inr refl))
touches-give (c ∷ v) s hs x i n f e =
    let w : (is_component c ≡ true) × Valid v = and_parts (is_component c) (list_all is_component v) n in
    split
    (λ a. (c ∷ [], ((refl, valid-one c w.0), free-pick hs (at (s ++ c ∷ [])) x a f, inl (v, refl))))
    (λ a. let t : (r : Path) × Touch (s ++ c ∷ []) hs v x r = touches-give v (s ++ c ∷ []) hs x i w.1 f a in
    (c ∷ t.0, touch-more s hs c v x t.0 w.0 t.1))
    (or_cases (alive hs (at (s ++ c ∷ []))) (touches (s ++ c ∷ []) hs v) e)

pub comparable-behind : (t x y : Path) → Comparable x y → Comparable (t ++ x) (t ++ y)
comparable-behind t x y (inl h) = inl (h.0, ap (λ z. t ++ z) h.1 ∙ sym (append_assoc t x h.0))
comparable-behind t x y (inr h) = inr (h.0, ap (λ z. t ++ z) h.1 ∙ sym (append_assoc t y h.0))

front-of : (x y : Path) → Comparable x (x ++ y)
front-of x y = inl (y, refl)

-- the picked path of a cone against v and x
past-pick : (m : Cone) (v : Path) (x : List ℕ) → Comparable (v ++ x ∷ []) (v ++ pick_rest m x)
past-pick (at u) v x = inr (x ∷ [], ap (λ y. y ++ x ∷ []) (sym (append-nil v)))
past-pick (below u) v x = inl ([], sym (append-nil (v ++ x ∷ [])))

touch-comparable : (m : Cone) (r v : Path) (x : List ℕ) → ((w : Path) × (v ≡ r ++ w)) ⊎ (r ≡ v ++ x ∷ []) → Comparable r (v ++ pick_rest m x)
touch-comparable m r v x (inl h) = inl (h.0 ++ pick_rest m x, ap (λ y. y ++ pick_rest m x) h.1 ∙ append_assoc r h.0 (pick_rest m x))
touch-comparable m r v x (inr h) = subst (λ y. Comparable y (v ++ pick_rest m x)) (sym h) (past-pick m v x)

reaches_at-give : (x : List ℕ) (c : Cone) (hs : List Cone) (v : Path) (m : Cone) → alive hs c ≡ true → Fresh x hs → Solid c → is_component x ≡ true → Valid v → reaches_at c hs (Some v) ≡ true
    → (p : Path) × (r : Path) × IsPath p × (tail c p ≡ Some r) × Free hs p × Comparable r (v ++ pick_rest m x)
reaches_at-give x (at s) hs v m a f n i j e = (s, [], n, at-has s, free-pick hs (at s) x a f, front-of [] (v ++ pick_rest m x))
reaches_at-give x (below s) hs v m a f n i j e =
    let t : (r : Path) × Touch s hs v x r = touches-give v s hs x i j f e in
    (s ++ t.0, t.0, path-from (s ++ t.0) (full-behind s t.0 t.1.0.0) (valid-both s t.0 n t.1.0.1), below-has s t.0 t.1.0.0, t.1.1, touch-comparable m t.0 v x t.1.2)

reaches-strip : (c : Cone) (hs : List Cone) (o : Option Path) → reaches_at c hs o ≡ true → (v : Path) × (o ≡ Some v)
reaches-strip c hs None e = absurd (true≢false (sym e))
reaches-strip c hs (Some v) e = (v, refl)

reaches-give : (x : List ℕ) (k l : Cell) → Sound x k → Sound x l → reaches k l ≡ true → CellClash k l
reaches-give x k l g h e =
    let v : (v : Path) × (strip k.1 l.1 ≡ Some v) = reaches-strip k.0 k.2 (strip k.1 l.1) e in
    let w : (p : Path) × (r : Path) × IsPath p × (tail k.0 p ≡ Some r) × Free k.2 p × Comparable r (v.0 ++ pick_rest l.0 x) =
    reaches_at-give x k.0 k.2 v.0 l.0 g.live g.fresh g.solid g.part (valid-rest k.1 l.1 v.0 v.1 h.aim) (ap (reaches_at k.0 k.2) (sym v.1) ∙ e) in
    record {
      p = w.0;
      q = pick l.0 x;
      r = w.1;
      r' = pick_rest l.0 x;
      path_p = w.2;
      path_q = pick-full l.0 x h.part h.solid;
      in_k = (w.3, w.4);
      in_l = pick-cell x l h;
      meet = inr (subst (λ y. Comparable (k.1 ++ w.1) y)
          (sym (ap (λ y. y ++ pick_rest l.0 x) (strip-is k.1 l.1 v.0 v.1) ∙ append_assoc k.1 v.0 (pick_rest l.0 x)))
          (comparable-behind k.1 w.1 (v.0 ++ pick_rest l.0 x) w.5));
    }

swap : (k l : Cell) → CellClash k l → CellClash l k
swap k l h =
    record {
      p = h.q;
      q = h.p;
      r = h.r';
      r' = h.r;
      path_p = h.path_q;
      path_q = h.path_p;
      in_k = h.in_l;
      in_l = h.in_k;
      meet = split (λ e. inl (sym e)) (λ c. inr (comparable-sym (k.1 ++ h.r) (l.1 ++ h.r') c)) h.meet;
    }

pub clashes-give : (x : List ℕ) (k l : Cell) → Sound x k → Sound x l → clashes k l ≡ true → CellClash k l
clashes-give x k l g h e =
    split
    (λ a. split (overlaps-give x k l g h) (λ b. swap l k (overlaps-give x l k h g b)) (or_cases (overlaps k l) (overlaps l k) a))
    (λ a. split (reaches-give x k l g h) (λ b. swap l k (reaches-give x l k h g b)) (or_cases (reaches k l) (reaches l k) a))
    (or_cases (overlaps k l || overlaps l k) (reaches k l || reaches l k) e)
