use Rattle.workspace.proofs.Cleared.{the_law}
use Rattle.workspace.proofs.laws.resolve_law.Goals as goal

pub returns : goal.returns
returns c = the_law
