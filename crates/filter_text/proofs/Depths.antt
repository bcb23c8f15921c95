-- A text is too deep where some front of it is.
use Rattle.std.proofs.Common.{◌≡◌, ◌+◌, ◌≤◌, ℕ, zero, suc, true, false, cond, ◌||◌, [], ◌∷◌, take, refl, arith, leb, le-leb, eqb}
use Rattle.std.specs.Prelude.{count_by}
use Rattle.std.proofs.lemmas.Bool.{leb-true}
use Rattle.std.proofs.lemmas.List.Sums.{sum_by-cons}
use Rattle.git_objects.specs.Paths.{Bytes}
use Rattle.filter_text.specs.Limits.{is_deep}
use Rattle.filter_text.proofs.Rooms.{deep-passed}

abbrev pub opens : Bytes → ℕ
opens t = count_by (λ x. eqb x 91) t

abbrev pub closes : Bytes → ℕ
closes t = count_by (λ x. eqb x 93) t

pub deep-front : (o c : ℕ) (t : Bytes) → is_deep o c t ≡ true → (n : ℕ) × (17 + (c + closes (take n t)) ≤ o + opens (take n t))
deep-front o c [] h = (0, omega (arith, leb-true (17 + c) o h))
deep-front o c (x ∷ t) h =
    elim (leb (17 + c) o) as (λ b. leb (17 + c) o ≡ b → (b || is_deep (o + cond (eqb x 91) 1 0) (c + cond (eqb x 93) 1 0) t) ≡ true →
    (n : ℕ) × (17 + (c + closes (take n (x ∷ t))) ≤ o + opens (take n (x ∷ t)))) [
      | true ↦ λ e g. (0, omega (arith, leb-true (17 + c) o e))
      | false ↦ λ e g.
          let later = deep-front (o + cond (eqb x 91) 1 0) (c + cond (eqb x 93) 1 0) t g in
          let opened : opens (take (suc later.0) (x ∷ t)) ≡ cond (eqb x 91) 1 0 + opens (take later.0 t) = sum_by-cons (λ y. cond (eqb y 91) 1 0) x (take later.0 t) in
          let closed : closes (take (suc later.0) (x ∷ t)) ≡ cond (eqb x 93) 1 0 + closes (take later.0 t) = sum_by-cons (λ y. cond (eqb y 93) 1 0) x (take later.0 t) in
          (suc later.0, omega (arith, later.1))
    ] refl h

pub front-deep : (n o c : ℕ) (t : Bytes) → 17 + (c + closes (take n t)) ≤ o + opens (take n t) → is_deep o c t ≡ true
front-deep zero o c t h = deep-passed o c t (le-leb (17 + c) o (omega arith))
front-deep (suc n) o c [] h = deep-passed o c [] (le-leb (17 + c) o (omega arith))
front-deep (suc n) o c (x ∷ t) h =
    let opened : opens (take (suc n) (x ∷ t)) ≡ cond (eqb x 91) 1 0 + opens (take n t) = sum_by-cons (λ y. cond (eqb y 91) 1 0) x (take n t) in
    let closed : closes (take (suc n) (x ∷ t)) ≡ cond (eqb x 93) 1 0 + closes (take n t) = sum_by-cons (λ y. cond (eqb y 93) 1 0) x (take n t) in
    elim (leb (17 + c) o) as (λ b. (b || is_deep (o + cond (eqb x 91) 1 0) (c + cond (eqb x 93) 1 0) t) ≡ true) [
      | true ↦ refl
      | false ↦ front-deep n (o + cond (eqb x 91) 1 0) (c + cond (eqb x 93) 1 0) t (omega arith)
    ]
