use Rattle.state_items.proofs.Limits.{change-law}
use Rattle.state_items.proofs.laws.change_law.Goals as goal

pub returns : goal.returns
returns c = change-law
