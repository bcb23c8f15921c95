-- Branches that are apart.
use Rattle.std.specs.Prelude.{◌≡◌, refl, Option, Some, None, true, ◌⊎◌}
use Rattle.std.proofs.Common.{◌∙◌}
use Rattle.std.proofs.lemmas.Option.{none-some}
use Rattle.git_objects.specs.Paths.{Path, comparable}
use Rattle.decision_lists.specs.Fronts.{or_else}
use Rattle.decision_lists.specs.Lists.{IsPath}
use Rattle.filter_text.specs.Filters.{Filter, Filters, more, no_more}
use Rattle.filter_routes.specs.Images.{first, image}
use Rattle.filter_routes.specs.Soundness.{Clash, IsApart}

meets-at : (f g : Filter) (gs : Filters) (p r x y : Path) (o : Option Path) → image g r ≡ o → (Clash f g → ⊥) → (first gs r ≡ Some y → ⊥)
    → IsPath p → IsPath r → image f p ≡ Some x → or_else o (first gs r) ≡ Some y → (p ≡ r) ⊎ (comparable x y ≡ true) → ⊥
meets-at f g gs p r x y None e a l n m h k c = l k
meets-at f g gs p r x y (Some b) e a l n m h k c =
    a (record { p = p; q = r; x = x; y = y; path_p = n; path_q = m; image_p = h; image_q = e ∙ k; meet = c })

-- a branch and those that it is apart from have no path in common, and no comparable images
pub meets-first : (f : Filter) (fs : Filters) (p r x y : Path) → IsApart f fs → IsPath p → IsPath r → image f p ≡ Some x → first fs r ≡ Some y
    → (p ≡ r) ⊎ (comparable x y ≡ true) → ⊥
meets-first f no_more p r x y a n m h k c = none-some y k
meets-first f (more g gs) p r x y a n m h k c =
    meets-at f g gs p r x y (image g r) refl a.0 (λ l. meets-first f gs p r x y a.1 n m h l c) n m h k c
