use Rattle.state_items.proofs.ReadEntries.{read-law}
use Rattle.state_items.proofs.laws.read_law.Goals as goal

pub returns : goal.returns
returns c = read-law
