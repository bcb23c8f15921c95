use Rattle.state_items.proofs.TreesStored.{stored-law}
use Rattle.state_items.proofs.laws.stored_law.Goals as goal

pub returns : goal.returns
returns c = stored-law
