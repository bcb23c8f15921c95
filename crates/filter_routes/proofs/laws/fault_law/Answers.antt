use Rattle.filter_routes.proofs.Sounds.{fault-law}
use Rattle.filter_routes.proofs.laws.fault_law.Goals as goal

pub returns : goal.returns
returns c = fault-law
