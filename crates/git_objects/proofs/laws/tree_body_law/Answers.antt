use Rattle.git_objects.proofs.TreeReading.{tree_law}
use Rattle.git_objects.proofs.laws.tree_body_law.Goals as goal

pub returns : goal.returns
returns c = tree_law
