-- The fronts of a path, one after another.
use Rattle.std.proofs.Common.{◌≡◌, ℕ, zero, suc, ◌⊎◌, inl, inr, ◌+◌, ◌<◌, ◌≤◌, [], ◌∷◌, ◌++◌, length, take, drop, Some, None, refl, sym, ap, ◌∙◌, length-append, arith}
use Rattle.std.proofs.lemmas.List.{take-append-drop, take_at}
use Rattle.git_objects.specs.Paths.{Path}
use Rattle.git_objects.specs.Trees.{Leaf, Flat, IsTree, at, LeafNode, standing}
use Rattle.filter_unapply.specs.Stored.{IsInWay, IsLeafInWay}
use Rattle.filter_routes.proofs.Carried.{nowhere}
use Rattle.filter_unapply.proofs.Places.{leaf_stands}

-- no leaf stands at a front of fewer components
abbrev pub IsClearTo : Flat → Path → ℕ → Type 0
IsClearTo t p n = (q r : Path) → q ++ r ≡ p → length q < n → at t q ≡ None

pub clear_first : (t : Flat) (p : Path) → IsTree t → IsClearTo t p (0 + 1)
clear_first t p h [] r e n = nowhere t [] h.paths refl
clear_first t p h (c ∷ q) r e n = absurd (omega arith)

front_is : (q r p : Path) → q ++ r ≡ p → q ≡ take (length q) p
front_is q r p e = sym (take_at q r (length q) refl) ∙ ap (take (length q)) e

compare-or : (m n : ℕ) → m ≤ n → (m < n) ⊎ (m ≡ n)
compare-or zero zero h = inr refl
compare-or zero (suc n) h = inl (omega arith)
compare-or (suc m) zero h = absurd (omega arith)
compare-or (suc m) (suc n) h = by (compare-or m n (omega arith))
  where
    by : (m < n) ⊎ (m ≡ n) → (suc m < suc n) ⊎ (suc m ≡ suc n)
    by (inl l) = inl (omega arith)
    by (inr l) = inr (ap suc l)

pub clear_more : (t : Flat) (p : Path) (n : ℕ) → IsClearTo t p (n + 1) → at t (take (n + 1) p) ≡ None → IsClearTo t p (n + 1 + 1)
clear_more t p n h e q r g k = by (compare-or (length q) (n + 1) (omega arith))
  where
    by : (length q < n + 1) ⊎ (length q ≡ n + 1) → at t q ≡ None
    by (inl l) = h q r g l
    by (inr l) = ap (at t) (front_is q r p g ∙ ap (λ k. take k p) l) ∙ e

pub clear_all : (t : Flat) (p : Path) (n : ℕ) → IsClearTo t p (n + 1) → length p ≤ n → IsLeafInWay t p None
clear_all t p n h l q r e = h q r e (shorter (length-append q r))
  where
    shorter : length (q ++ r) ≡ length q + length r → length q < n + 1
    shorter k = let m = ap length e in omega arith

pub leaf_at_front : (t : Flat) (p q : Path) (n : ℕ) (x : Leaf) → q ≡ take n p → standing t q ≡ Some (LeafNode x) → IsInWay t p q
leaf_at_front t p q n x e g = record { rest = drop n p; path = ap (λ (r : Path). r ++ drop n p) e ∙ take-append-drop n p; leaf = x; stands = leaf_stands t q x g }
