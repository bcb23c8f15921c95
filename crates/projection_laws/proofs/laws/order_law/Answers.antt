use Rattle.projection_laws.proofs.OrderLemmas.{the_order}
use Rattle.projection_laws.proofs.laws.order_law.Goals as goal

pub returns : goal.returns
returns c = the_order
