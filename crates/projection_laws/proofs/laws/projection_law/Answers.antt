use Rattle.projection_laws.proofs.KeptLemmas.{the_law}
use Rattle.projection_laws.proofs.laws.projection_law.Goals as goal

pub returns : goal.returns
returns c = the_law
