-- Comparable paths agree at each place that both have.
use Rattle.std.proofs.Common.{◌≡◌, Bool, true, false, ◌&&◌, ◌||◌, [], ◌∷◌, refl, ap, ◌∙◌}
use Rattle.std.specs.List.{list_all, zip}
use Rattle.git_objects.specs.Paths.{Path, same_bytes, is_prefix, comparable}
use Rattle.git_objects.proofs.Basics.{same_bytes-back}

both : (s a b : Bool) → (s && (a || b)) ≡ ((s && a) || (s && b))
both true a b = refl
both false a b = refl

pub zip-comparable : (p q : Path) → list_all (λ e. same_bytes e.0 e.1) (zip p q) ≡ comparable p q
zip-comparable [] q = refl
zip-comparable (c ∷ p) [] = refl
zip-comparable (c ∷ p) (d ∷ q) =
    ap (λ b. same_bytes c d && b) (zip-comparable p q)
    ∙ both (same_bytes c d) (is_prefix p q) (is_prefix q p)
    ∙ (λ i. (same_bytes c d && is_prefix p q) || (same_bytes-back c d i && is_prefix q p))

either : (a b : Bool) → (a || b) ≡ (b || a)
either true true = refl
either true false = refl
either false true = refl
either false false = refl

pub comparable-comm : (p q : Path) → comparable p q ≡ comparable q p
comparable-comm p q = either (is_prefix p q) (is_prefix q p)
