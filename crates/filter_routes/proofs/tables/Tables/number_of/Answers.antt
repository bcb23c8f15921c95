use Rattle.std.proofs.Common.{◌<◌, length, Some, sym, ap, ◌∙◌, subst}
use Rattle.std.proofs.lemmas.Option.{slice_get-get_or}
use Rattle.filter_text.specs.Shapes.{shape}
use Rattle.filter_text.proofs.Equals.{filter-equal}
use Rattle.filter_routes.specs.Interned.{HasAt, HasNone, number_at}
use Rattle.filter_routes.specs.Soundness.{IsSound}
use Rattle.filter_routes.proofs.tables.Tables.number_of.Goals as goal

pub returns-then-same-clause-number : goal.returns-then-same-clause-number
returns-then-same-clause-number c =
    let ts = c.self.inside.tables.items in
    let i = c.in-Some.number.now in
    let t = c.index.result.now in
    let f = shape c.args.filter.now in
    let l : i < length ts = c.self.invariant.numbered.within c.args.text.now i (sym c.in-Some.ensures.value) in
    subst (λ xs. HasAt xs f i) c.self.view_is (
      t,
      slice_get-get_or ts i t l ∙ ap Some (sym c.index.ensures),
      ap shape (sym c.filter.ensures.filter) ∙ filter-equal (shape c.filter.result.now) f (sym c.same.ensures.test ∙ c.if-same.true),
    )

pub returns-in-None-clause-number : goal.returns-in-None-clause-number
returns-in-None-clause-number c =
    let f = shape c.args.filter.now in
    let es = c.self.inside.numbers.entries in
    subst (λ xs. HasNone xs f) c.self.view_is
    (λ n h. c.self.invariant.numbered.keyed f n h (ap (number_at es) (sym c.requires) ∙ sym c.in-None.ensures.value))

pub returns-then-same-clause-sound : goal.returns-then-same-clause-sound
returns-then-same-clause-sound c =
    let f = shape c.args.filter.now in
    subst IsSound (ap shape (sym c.filter.ensures.filter) ∙ filter-equal (shape c.filter.result.now) f (sym c.same.ensures.test ∙ c.if-same.true)) c.filter.ensures.sound
