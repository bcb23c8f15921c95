-- Comparable paths, by a test and by what stands behind.
use Rattle.std.specs.Prelude.{◌≡◌, refl, [], ◌∷◌, ◌++◌, true}
use Rattle.std.proofs.Common.{ap, ap₂, ◌∙◌, sym, true≢false, inl, inr}
use Rattle.std.proofs.lemmas.Bool.{and_parts, and_from, or_cases, or_left, or_right}
use Rattle.decision_lists.proofs.Clash.{Comparable, split}
use Rattle.decision_lists.proofs.Strip.{eq-is, eq-self}
use Rattle.git_objects.specs.Paths.{Path, comparable, is_prefix, same_bytes}

prefix-is : (x y : Path) → is_prefix x y ≡ true → (w : Path) × (y ≡ x ++ w)
prefix-is [] y e = (y, refl)
prefix-is (c ∷ x) [] e = absurd (true≢false (sym e))
prefix-is (c ∷ x) (d ∷ y) e =
    let h : (same_bytes c d ≡ true) × (is_prefix x y ≡ true) = and_parts (same_bytes c d) (is_prefix x y) e in
    let w : (w : Path) × (y ≡ x ++ w) = prefix-is x y h.1 in
    (w.0, ap₂ (λ a b. a ∷ b) (sym (eq-is c d h.0)) w.1)

prefix-self : (x w : Path) → is_prefix x (x ++ w) ≡ true
prefix-self [] w = refl
prefix-self (c ∷ x) w = and_from (same_bytes c c) (is_prefix x (x ++ w)) (eq-self c) (prefix-self x w)

pub comparable-test : (x y : Path) → Comparable x y → comparable x y ≡ true
comparable-test x y (inl h) = or_left (is_prefix x y) (is_prefix y x) (ap (is_prefix x) h.1 ∙ prefix-self x h.0)
comparable-test x y (inr h) = or_right (is_prefix x y) (is_prefix y x) (ap (is_prefix y) h.1 ∙ prefix-self y h.0)

pub comparable-is : (x y : Path) → comparable x y ≡ true → Comparable x y
comparable-is x y e = split (λ h. inl (prefix-is x y h)) (λ h. inr (prefix-is y x h)) (or_cases (is_prefix x y) (is_prefix y x) e)
