use Rattle.repo_ground.specs.Growing.{held_of}
use Rattle.repo_ground.proofs.Passing.{empty-children, empty-read}
use Rattle.repo_ground.proofs.walk.beside_of.Goals as goal

pub of_canonical-requires : goal.of_canonical-requires
of_canonical-requires c = empty-read

pub returns-in-None-found : goal.returns-in-None-found
returns-in-None-found c = λ holds. empty-children (held_of c.args.store.now c.args.held.now.keys) c.of_canonical.result c.of_canonical.ensures
