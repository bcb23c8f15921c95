use Rattle.push_laws.proofs.BroughtOriginals.{brought-law}
use Rattle.push_laws.proofs.laws.brought_law.Goals as goal

pub returns : goal.returns
returns c = brought-law
