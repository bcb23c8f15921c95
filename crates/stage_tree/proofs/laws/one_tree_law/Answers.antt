use Rattle.stage_tree.proofs.Shown.{one_tree}
use Rattle.stage_tree.proofs.laws.one_tree_law.Goals as goal

pub returns : goal.returns
returns c = one_tree
