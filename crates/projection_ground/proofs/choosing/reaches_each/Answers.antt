use Rattle.std.proofs.Common.{◌∷◌, [], map, subst}
use Rattle.std.specs.Option.{IfSome}
use Rattle.commit_map.specs.Shown.{shown_value}
use Rattle.projection_ground.specs.Choosing.{IsTest, reaches_each}
use Rattle.projection_ground.proofs.choosing.reaches_each.Goals as goal

pub returns-in-Some : goal.returns-in-Some
returns-in-Some c = λ place b.
    let g = c.args.ground.now in
    let first = c.args.first in
    subst (λ o. IfSome o (IsTest g place (first ∷ []) (reaches_each g place first (map shown_value c.args.projected.now)))) c.in-Some.is (c.in_ok-test.ensures.test place b)

pub returns : goal.returns
returns c = λ place b.
    let g = c.args.ground.now in
    let first = c.args.first in
    subst (λ o. IfSome o (IsTest g place (first ∷ []) (reaches_each g place first (map shown_value c.args.projected.now)))) c.in-Some-2.is (c.in_ok-reaches_each_from.ensures.test place b)
