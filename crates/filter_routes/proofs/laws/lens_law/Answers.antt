use Rattle.filter_routes.proofs.Inverse.{the_law}
use Rattle.filter_routes.proofs.laws.lens_law.Goals as goal

pub returns : goal.returns
returns c = the_law
