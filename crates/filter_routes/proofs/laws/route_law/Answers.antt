use Rattle.filter_routes.proofs.GoesBack.{the_law}
use Rattle.filter_routes.proofs.laws.route_law.Goals as goal

pub returns : goal.returns
returns c = the_law
