use Rattle.std.proofs.Common.{◌<◌, ◌≤◌, Some, sym, ap, ◌∙◌, subst, arith, length}
use borrow.Author.Count.{below_more}
use Rattle.std.specs.List.{slice_get}
use Rattle.filter_text.specs.Filters.{same_filter}
use Rattle.filter_text.specs.Shapes.{shape}
use Rattle.filter_text.proofs.Equals.{filter-equal}
use Rattle.filter_routes.specs.Interned.{HasAt}
use Rattle.filter_routes.specs.Soundness.{IsSound}
use Rattle.std.proofs.lemmas.Option.{slice_get-get_or}
use Rattle.filter_routes.proofs.Interning.{other-at, none-behind}
use Rattle.filter_routes.proofs.tables.Tables.find.Goals as goal

pub returns-then-same-clause-number : goal.returns-then-same-clause-number
returns-then-same-clause-number c =
    let ts = c.self.inside.tables.items in
    let i = c.loop-i.i in
    let t = c.index.result.now in
    let f = shape c.args.filter.now in
    let l : i < length ts = omega arith in
    subst (λ xs. HasAt xs f i) c.self.view_is (
      t,
      slice_get-get_or ts i t l ∙ ap Some (sym c.index.ensures),
      ap shape (sym c.filter.ensures.filter) ∙ filter-equal (shape c.filter.result.now) f (sym c.same.ensures.test ∙ c.if-same.true),
    )

pub loop-i-preserved : goal.loop-i-preserved
loop-i-preserved c =
    let ts = c.self.inside.tables.items in
    let i = c.loop-i.i in
    let t = c.index.result.now in
    let f = shape c.args.filter.now in
    let l : i < length ts = omega arith in
    below_more (λ n. HasAt c.args.self.now f n → ⊥) i c.loop-i.invariant
    (other-at c.args.self.now i t f (ap (λ xs. slice_get xs i) (sym c.self.view_is) ∙ slice_get-get_or ts i t l ∙ ap Some (sym c.index.ensures))
    (ap (λ g. same_filter (shape g) f) (sym c.filter.ensures.filter) ∙ sym c.same.ensures.test ∙ c.if-same.false))

pub returns-clause-number : goal.returns-clause-number
returns-clause-number c =
    let f = shape c.args.filter.now in
    let l : length c.args.self.now ≤ c.loop-i.i = omega (arith, ap length (c.as_slice-i-end.ensures.value ∙ c.self.view_is)) in
    none-behind c.args.self.now f c.loop-i.i l c.loop-i.invariant

pub returns-then-same-clause-sound : goal.returns-then-same-clause-sound
returns-then-same-clause-sound c =
    let f = shape c.args.filter.now in
    subst IsSound (ap shape (sym c.filter.ensures.filter) ∙ filter-equal (shape c.filter.result.now) f (sym c.same.ensures.test ∙ c.if-same.true)) c.filter.ensures.sound
