use Rattle.push_laws.proofs.Alike.{alike-law}
use Rattle.push_laws.proofs.laws.alike_law.Goals as goal

pub returns : goal.returns
returns c = alike-law
