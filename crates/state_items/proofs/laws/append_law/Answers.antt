use Rattle.state_items.proofs.Appended.{append-law}
use Rattle.state_items.proofs.laws.append_law.Goals as goal

pub returns : goal.returns
returns c = append-law
