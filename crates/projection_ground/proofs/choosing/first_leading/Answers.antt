use Rattle.std.proofs.Common.{◌≤◌, ◌&&◌, length, get_or, [], sym, ◌∙◌, ap, arith}
use Rattle.git_objects.specs.Paths.{same_bytes}
use Rattle.commit_map.specs.Shown.{shown_value}
use Rattle.commit_map.specs.declared.commit_map.Shown.{Shown}
use Rattle.projection_laws.specs.Projections.{member_or}
use Rattle.projection_laws.proofs.Members.{found-here, none-found, passed-by}
use Rattle.projection_ground.specs.Choosing.{leads_upon}
use Rattle.projection_ground.proofs.Chosen.{told}
use Rattle.projection_ground.proofs.choosing.first_leading.Goals as goal

unnamed : Shown
unnamed = record { commit = record { 0 = [] }; tree = record { 0 = [] } }

pub returns-in-Is-true : goal.returns-in-Is-true
unfolding unnamed
returns-in-Is-true c = λ place d b ks a.
    let g = c.args.ground.now in
    ap (λ o. member_or o d) (found-here (λ m. same_bytes m.tree c.args.tree.now.0 && leads_upon g place c.args.parents.now ks m) c.args.projected.now c.loop-m.m-index unnamed c.loop-m-test.true
    (sym c.in-Is-true.field-0-test ∙ told g place c.args.parents.now (λ js. same_bytes (shown_value (get_or c.args.projected.now c.loop-m.m-index unnamed)).tree c.args.tree.now.0 && leads_upon g place c.args.parents.now js (shown_value (get_or c.args.projected.now c.loop-m.m-index unnamed))) c.in_ok-below.field-0 c.in-Is-true.field-0 (c.in_ok-below.ensures place b) c.in-Is-true.is ks a) (c.loop-m.invariant place b ks a))

pub loop-m-preserved : goal.loop-m-preserved
unfolding unnamed
loop-m-preserved c = λ place b ks a.
    let g = c.args.ground.now in
    passed-by (λ m. same_bytes m.tree c.args.tree.now.0 && leads_upon g place c.args.parents.now ks m) c.args.projected.now c.loop-m.m-index unnamed c.loop-m-test.true
    (sym c.in-Is-false.field-0-test ∙ told g place c.args.parents.now (λ js. same_bytes (shown_value (get_or c.args.projected.now c.loop-m.m-index unnamed)).tree c.args.tree.now.0 && leads_upon g place c.args.parents.now js (shown_value (get_or c.args.projected.now c.loop-m.m-index unnamed))) c.in_ok-below.field-0 c.in-Is-false.field-0 (c.in_ok-below.ensures place b) c.in-Is-false.is ks a) (c.loop-m.invariant place b ks a)

pub returns : goal.returns
returns c = λ place d b ks a.
    let g = c.args.ground.now in
    let end : length c.args.projected.now ≤ c.loop-m.m-index = let f = c.loop-m-test.false in omega (arith, f) in
    ap (λ o. member_or o d) (none-found (λ m. same_bytes m.tree c.args.tree.now.0 && leads_upon g place c.args.parents.now ks m) c.args.projected.now c.loop-m.m-index end (c.loop-m.invariant place b ks a))
