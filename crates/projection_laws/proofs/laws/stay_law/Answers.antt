use Rattle.projection_laws.proofs.KeptLemmas.{the_stay}
use Rattle.projection_laws.proofs.laws.stay_law.Goals as goal

pub returns : goal.returns
returns c = the_stay
