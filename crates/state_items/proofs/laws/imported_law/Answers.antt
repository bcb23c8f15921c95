use Rattle.state_items.proofs.Imports.{imported-law}
use Rattle.state_items.proofs.laws.imported_law.Goals as goal

pub returns : goal.returns
returns c = imported-law
