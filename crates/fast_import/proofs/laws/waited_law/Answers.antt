use Rattle.fast_import.proofs.Ended.{waited_law}
use Rattle.fast_import.proofs.laws.waited_law.Goals as goal

pub returns : goal.returns
returns c = waited_law
