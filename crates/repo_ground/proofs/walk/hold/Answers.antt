use Rattle.std.proofs.Common.{List, sym, subst, ◌∷◌}
use Rattle.git_objects.specs.declared.name.Name.{Name}
use Rattle.repo_ground.specs.Growing.{IsStep}
use Rattle.repo_ground.proofs.Grows.{hold-step}
use Rattle.repo_ground.proofs.walk.hold.Goals as goal

pub returns-clause-step : goal.returns-clause-step
returns-clause-step c = λ S o os e r.
    subst (λ (ns : List Name). IsStep S c.args.held.now.keys ns (o ∷ os) os) (sym c.in_ok-insert.ensures.keys) (hold-step S c.args.held.now.keys c.args.name o os e r)
