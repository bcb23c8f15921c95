use Rattle.std.proofs.Common.{◌≡◌, Bool, IsTrue, ◌∙◌, ap, sym}
use Rattle.filter_text.specs.Filters.{Filter, same_filter}
use Rattle.filter_text.specs.Shapes.{shape}
use Rattle.filter_text.proofs.Equals.{filter-equal, filter-same}
use Rattle.filter_text.proofs.values.same.Goals as goal

equal : (b : Bool) (f g : Filter) → b ≡ same_filter f g → (IsTrue b → f ≡ g) × (f ≡ g → IsTrue b)
equal b f g e = (λ h. filter-equal f g (sym e ∙ h), λ h. e ∙ ap (same_filter f) (sym h) ∙ filter-same f)

pub returns-clause-equal : goal.returns-clause-equal
returns-clause-equal c = equal c.is_same.result (shape c.args.a.now) (shape c.args.b.now) c.is_same.ensures
