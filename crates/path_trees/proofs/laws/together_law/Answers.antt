use Rattle.path_trees.proofs.Together.{together_law}
use Rattle.path_trees.proofs.laws.together_law.Goals as goal

pub returns : goal.returns
returns c = together_law
