use Rattle.projection_laws.proofs.LastLemmas.{the_law}
use Rattle.projection_laws.proofs.laws.history_law.Goals as goal

pub returns : goal.returns
returns c = the_law
