use Rattle.std.proofs.Common.{Some, ap, arith, sym, ◌∙◌, ◌≡◌, ◌<◌, length}
use Rattle.std.specs.List.{slice_get}
use Rattle.std.proofs.lemmas.Option.{same_Some, slice_get-get_or}
use Rattle.commit_map.specs.Rules.{rule_number}
use Rattle.filter_text.specs.Shapes.{shape}
use Rattle.filter_text.proofs.Equals.{filter-equal}
use Rattle.projection_ground.specs.declared.true_maps.TrueMap.{TrueMap}
use Rattle.projection_ground.proofs.TrueEntries.{same-rule}
use Rattle.projection_ground.proofs.true_maps.TrueMaps.find.Goals as goal

pub returns-then-same : goal.returns-then-same
returns-then-same c =
    let ms = c.self.inside.maps.items in
    let i = c.loop-i.i in
    let first = c.index.result.now in
    let m = c.index-then-number.result.now in
    let l : i < length ms = omega (arith, c.loop-i-test.true, ap length c.as_slice-i-end.ensures.value) in
    let at = slice_get-get_or ms i m l ∙ ap Some (sym c.index-then-number.ensures) in
    let same : first ≡ m = same_Some first m (sym (slice_get-get_or ms i first l ∙ ap Some (sym c.index.ensures)) ∙ at) in (
      m,
      ap (λ xs. slice_get xs i) (sym c.self.view_is) ∙ at,
      filter-equal (shape m.filter) (shape c.args.filter.now) (sym c.same.ensures.test ∙ c.if-same.true),
      same-rule m.rule c.args.rule (sym (ap (λ (x : TrueMap). rule_number x.rule) same) ∙ sym c.number.ensures ∙ c.if-number.true ∙ c.number-in-loop-i.ensures),
    )
