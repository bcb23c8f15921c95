-- Lists of filters that are compared.
use Rattle.std.proofs.Common.{◌≡◌, ◌≢◌, suc, Bool, true, false, ◌&&◌, List, [], ◌∷◌, length, refl, sym, ap, ◌∙◌}
use Rattle.filter_text.specs.Filters.{same_filter, same_filters}
use Rattle.filter_text.specs.Shapes.{shape, shapes}
use Rattle.filter_text.specs.declared.filter.Filter.{Filter}

none : (b : Bool) → (b && false) ≡ false
none true = refl
none false = refl

pub longer-differs : (fs gs : List Filter) → length fs ≢ length gs → false ≡ same_filters (shapes fs) (shapes gs)
longer-differs [] [] h = absurd (h refl)
longer-differs [] (g ∷ gs) h = refl
longer-differs (f ∷ fs) [] h = refl
longer-differs (f ∷ fs) (g ∷ gs) h =
    sym (none (same_filter (shape f) (shape g))) ∙ ap (λ b. same_filter (shape f) (shape g) && b) (longer-differs fs gs (λ e. h (ap suc e)))
