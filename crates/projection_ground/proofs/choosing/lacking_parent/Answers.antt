use Rattle.projection_ground.proofs.Lacks.{parent-below, parents-kept}
use Rattle.projection_ground.proofs.choosing.lacking_parent.Goals as goal

pub returns-clause-some : goal.returns-clause-some
returns-clause-some c =
    parent-below c.args.ground.now c.args.place c.parents.result.now c.first_lacking.result c.requires c.parents.ensures.parents c.parents.ensures.below c.first_lacking.ensures

pub returns-clause-none : goal.returns-clause-none
returns-clause-none c = parents-kept c.args.ground.now c.args.place c.parents.result.now c.first_lacking.result c.requires c.parents.ensures.parents c.first_lacking.ensures
