use Rattle.push_laws.proofs.Pushing.{elsewhere-law}
use Rattle.push_laws.proofs.laws.elsewhere_law.Goals as goal

pub returns : goal.returns
returns c = elsewhere-law
