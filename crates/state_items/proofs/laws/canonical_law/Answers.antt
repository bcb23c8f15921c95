use Rattle.state_items.proofs.Canonicals.{canonical-law}
use Rattle.state_items.proofs.laws.canonical_law.Goals as goal

pub returns : goal.returns
returns c = canonical-law
