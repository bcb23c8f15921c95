use Rattle.push_laws.proofs.Stepping.{step-law}
use Rattle.push_laws.proofs.laws.step_law.Goals as goal

pub returns : goal.returns
returns c = step-law
