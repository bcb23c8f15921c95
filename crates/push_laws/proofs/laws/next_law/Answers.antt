use Rattle.push_laws.proofs.Stepping.{next-law}
use Rattle.push_laws.proofs.laws.next_law.Goals as goal

pub returns : goal.returns
returns c = next-law
