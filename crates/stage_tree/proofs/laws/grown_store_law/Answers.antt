use Rattle.stage_tree.proofs.Shown.{grown_store}
use Rattle.stage_tree.proofs.laws.grown_store_law.Goals as goal

pub returns : goal.returns
returns c = grown_store
