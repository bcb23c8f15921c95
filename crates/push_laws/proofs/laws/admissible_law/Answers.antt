use Rattle.push_laws.proofs.Pushing.{admissible-law}
use Rattle.push_laws.proofs.laws.admissible_law.Goals as goal

pub returns : goal.returns
returns c = admissible-law
