-- Two paths compared component by component.
use Rattle.std.proofs.Common.{◌≡◌, ℕ, ◌+◌, ◌<◌, ◌≤◌, Bool, true, false, ◌||◌, ◌&&◌, [], ◌∷◌, length, min, drop, get_or, refl, sym, ap, ◌∙◌, arith, not, true≢false}
use Rattle.std.proofs.lemmas.Bool.{or_right}
use Rattle.std.proofs.lemmas.List.{drop_more}
use Rattle.git_objects.specs.Paths.{Bytes, Path, comparable, is_prefix, same_bytes}
use Rattle.git_objects.proofs.Basics.{same_bytes-back}

module _ (a b : Path) (i : ℕ) (c d : Bytes) (in_a : i < length a) (in_b : i < length b) (at_a : c ≡ get_or a i c) (at_b : d ≡ get_or b i d) where
  left_a : drop i a ≡ c ∷ drop (i + 1) a
  left_a = drop_more a i c in_a ∙ (λ v. sym at_a v ∷ drop (i + 1) a)

  left_b : drop i b ≡ d ∷ drop (i + 1) b
  left_b = drop_more b i d in_b ∙ (λ v. sym at_b v ∷ drop (i + 1) b)

  first : comparable (drop i a) (drop i b) ≡ (same_bytes c d && is_prefix (drop (i + 1) a) (drop (i + 1) b)) || (same_bytes c d && is_prefix (drop (i + 1) b) (drop (i + 1) a))
  first = (λ v. comparable (left_a v) (left_b v)) ∙ ap (λ t. (same_bytes c d && is_prefix (drop (i + 1) a) (drop (i + 1) b)) || (t && is_prefix (drop (i + 1) b) (drop (i + 1) a))) (same_bytes-back d c)

  pub one_same : same_bytes c d ≡ true → comparable (drop (i + 1) a) (drop (i + 1) b) ≡ comparable (drop i a) (drop i b)
  one_same h = sym (first ∙ ap (λ t. (t && is_prefix (drop (i + 1) a) (drop (i + 1) b)) || (t && is_prefix (drop (i + 1) b) (drop (i + 1) a))) h)

  pub one_other : same_bytes c d ≡ false → false ≡ comparable (drop i a) (drop i b)
  one_other h = sym (first ∙ ap (λ t. (t && is_prefix (drop (i + 1) a) (drop (i + 1) b)) || (t && is_prefix (drop (i + 1) b) (drop (i + 1) a))) h)

pub one_ended : (a b : Path) (i : ℕ) → min (length a) (length b) ≤ i → true ≡ comparable (drop i a) (drop i b)
one_ended a b i h = by (drop i a) (drop i b) refl refl
  where
    by : (p q : Path) → drop i a ≡ p → drop i b ≡ q → true ≡ comparable (drop i a) (drop i b)
    by [] q e f = sym (ap (λ (v : Path). comparable v (drop i b)) e)
    by (c ∷ p) [] e f = sym (ap (comparable (drop i a)) f ∙ or_right (is_prefix (drop i a) []) true refl)
    by (c ∷ p) (d ∷ q) e f =
        absurd (omega (arith, h, ap length e, ap length f, Rattle.std.proofs.lemmas.List.length-drop i a, Rattle.std.proofs.lemmas.List.length-drop i b))

pub of_ne : (b : Bool) → true ≡ not b → b ≡ false
of_ne true h = absurd (true≢false h)
of_ne false h = refl

pub of_eq : (b : Bool) → false ≡ not b → b ≡ true
of_eq true h = refl
of_eq false h = absurd (true≢false (sym h))
