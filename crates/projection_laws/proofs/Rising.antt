-- Rising lists of places.
use Rattle.std.proofs.Common.{ℕ, suc, ◌<◌, List, [], ◌∷◌, ◌++◌, reverse, All, sym, subst, arith}
use Rattle.std.specs.List.{AllPairs}
use Rattle.std.specs.List.Sorted.{IsStrictlyIncreasing}
use Rattle.std.proofs.lemmas.Grind.{reverse_onto}
use Rattle.std.proofs.lemmas.List.Elements.{All-head, All-tail}
use Rattle.std.proofs.lemmas.List.Kept.{AllPairs-from_increasing}
use Rattle.git_objects.specs.Lists.{Each}
use Rattle.projection_laws.proofs.HistoryLemmas.{each-reverse}

pub each-all : (P : ℕ → Type 0) (xs : List ℕ) → All P xs → Each P xs
each-all P [] h = tt
each-all P (x ∷ xs) h = (All-head P x xs h, each-all P xs (All-tail P x xs h))

-- each is below all later ones
abbrev pub Rises : List ℕ → Type 0
Rises [] = Unit
Rises (x ∷ xs) = Each (λ y. x < y) xs × Rises xs

pairs-rise : (xs : List ℕ) → AllPairs (λ x y. x < y) xs → Rises xs
pairs-rise [] h = tt
pairs-rise (x ∷ xs) h = (
  each-all (λ y. x < y) xs (λ k d l. h 0 (suc k) d (omega arith) (omega (arith, l))),
  pairs-rise xs (λ i j d l m. h (suc i) (suc j) d (omega (arith, l)) (omega (arith, m))),
)

pub rises : (xs : List ℕ) → IsStrictlyIncreasing xs → Rises xs
rises xs h = pairs-rise xs (AllPairs-from_increasing xs h)

-- one of them, with those before and behind it
pub rises-split : (xs : List ℕ) (p : ℕ) (ys : List ℕ) → Rises (xs ++ p ∷ ys) → Each (λ q. q < p) xs × Each (λ q. p < q) ys
rises-split [] p ys h = (tt, h.0)
rises-split (x ∷ xs) p ys h =
    let r = rises-split xs p ys h.1 in
    ((middle xs h.0, r.0), r.1)
  where
    middle : (zs : List ℕ) → Each (λ y. x < y) (zs ++ p ∷ ys) → x < p
    middle [] e = e.0
    middle (z ∷ zs) e = middle zs e.1

-- each is below n and above all later ones
abbrev pub Falls : ℕ → List ℕ → Type 0
Falls n [] = Unit
Falls n (p ∷ ps) = (p < n) × Falls p ps

falls-more : (n : ℕ) (ys : List ℕ) (x : ℕ) → Falls n ys → Each (λ y. x < y) ys → x < n → Falls n (ys ++ x ∷ [])
falls-more n [] x h e l = (l, tt)
falls-more n (y ∷ ys) x h e l = (h.0, falls-more y ys x h.1 e.1 e.0)

pub falls : (n : ℕ) (xs : List ℕ) → Rises xs → Each (λ x. x < n) xs → Falls n (reverse xs)
falls n [] h e = tt
falls n (x ∷ xs) h e = subst (Falls n) (sym (reverse_onto xs x [])) (falls-more n (reverse xs) x (falls n xs h.1 e.1) (each-reverse (λ y. x < y) xs h.0) e.0)
