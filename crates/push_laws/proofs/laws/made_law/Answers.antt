use Rattle.push_laws.proofs.Pushing.{made-law}
use Rattle.push_laws.proofs.laws.made_law.Goals as goal

pub returns : goal.returns
returns c = made-law
