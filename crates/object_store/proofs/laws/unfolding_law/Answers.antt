use Rattle.object_store.proofs.Unfolding.{unfolding_law}
use Rattle.object_store.proofs.laws.unfolding_law.Goals as goal

pub returns : goal.returns
returns c = unfolding_law
