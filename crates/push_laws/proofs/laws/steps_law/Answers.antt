use Rattle.push_laws.proofs.Pushing.{steps-law}
use Rattle.push_laws.proofs.laws.steps_law.Goals as goal

pub returns : goal.returns
returns c = steps-law
