use Rattle.filter_routes.proofs.SeenTrees.{the_law}
use Rattle.filter_routes.proofs.laws.seen_law.Goals as goal

pub returns : goal.returns
returns c = the_law
