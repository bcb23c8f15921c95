use Rattle.path_names.proofs.Comparables.{comparable-comm}
use Rattle.path_names.proofs.laws.comparable_law.Goals as goal

pub returns : goal.returns
returns c = comparable-comm
