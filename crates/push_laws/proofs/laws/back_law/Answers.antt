use Rattle.push_laws.proofs.Pushing.{back-law}
use Rattle.push_laws.proofs.laws.back_law.Goals as goal

pub returns : goal.returns
returns c = back-law
