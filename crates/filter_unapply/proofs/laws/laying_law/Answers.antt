use Rattle.filter_unapply.proofs.LayingLemmas.{the_law}
use Rattle.filter_unapply.proofs.laws.laying_law.Goals as goal

pub returns : goal.returns
returns c = the_law
