use Rattle.import_laws.proofs.Making.{made-law}
use Rattle.import_laws.proofs.laws.made_law.Goals as goal

pub returns : goal.returns
returns c = made-law
