use Rattle.std.proofs.Common.{inr, List, [], ◌∷◌, ◌++◌, refl, ap, ◌∙◌}
use Rattle.projection_ground.specs.declared.true_maps.TrueMap.{TrueMap}
use Rattle.projection_ground.proofs.true_maps.TrueMaps.add.Goals as goal

pub returns : goal.returns
returns c =
    let m : TrueMap = record { filter = c.in_ok-filter.filter; rule = c.args.rule; map = c.args.map } in
    inr (m, (c.in_ok-filter.ensures.copy, refl, refl), c.in_ok-push.ensures.items ∙ ap (λ (ms : List TrueMap). ms ++ m ∷ []) c.self.view_is)
