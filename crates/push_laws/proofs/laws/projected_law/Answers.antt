use Rattle.push_laws.proofs.Pushing.{projected-law}
use Rattle.push_laws.proofs.laws.projected_law.Goals as goal

pub returns : goal.returns
returns c = projected-law
