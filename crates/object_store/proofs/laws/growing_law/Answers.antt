use Rattle.object_store.proofs.Unfolding.{growing_law}
use Rattle.object_store.proofs.laws.growing_law.Goals as goal

pub returns : goal.returns
returns c = growing_law
