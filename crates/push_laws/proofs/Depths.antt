-- Whether some path of a tree is deeper, or has a longer text.
use Rattle.std.proofs.Common.{◌≡◌, ℕ, false, ◌||◌, [], ◌∷◌, length, max, sym, ap, ◌∙◌, arith}
use Rattle.std.specs.Prelude.{nat_lt}
use Rattle.std.specs.List.{list_any}
use Rattle.std.proofs.lemmas.Bool.Decides.{nat_tests}
use Rattle.git_objects.specs.Paths.{text}
use Rattle.git_objects.specs.Trees.{Flat}
use Rattle.git_objects.specs.Names.{depth}
use Rattle.object_store.specs.Sizes.{longest}

lt-max : (m a b : ℕ) → nat_lt m (max a b) ≡ (nat_lt m a || nat_lt m b)
lt-max m a b = grind (arith, nat_tests)

none-below : (m : ℕ) → false ≡ nat_lt m 0
none-below m = grind (arith, nat_tests)

pub deeper : (m : ℕ) (t : Flat) → list_any (λ e. nat_lt m (length e.0)) t ≡ nat_lt m (depth t)
deeper m [] = none-below m
deeper m (e ∷ t) = ap (λ b. nat_lt m (length e.0) || b) (deeper m t) ∙ sym (lt-max m (length e.0) (depth t))

pub longer : (m : ℕ) (t : Flat) → list_any (λ e. nat_lt m (length (text e.0))) t ≡ nat_lt m (longest t)
longer m [] = none-below m
longer m (e ∷ t) = ap (λ b. nat_lt m (length (text e.0)) || b) (longer m t) ∙ sym (lt-max m (length (text e.0)) (longest t))
