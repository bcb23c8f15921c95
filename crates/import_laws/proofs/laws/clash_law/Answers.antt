use Rattle.import_laws.proofs.Making.{clash-law}
use Rattle.import_laws.proofs.laws.clash_law.Goals as goal

pub returns : goal.returns
returns c = clash-law
