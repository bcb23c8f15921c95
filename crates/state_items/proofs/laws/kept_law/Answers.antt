use Rattle.state_items.proofs.Kepts.{kept-law}
use Rattle.state_items.proofs.laws.kept_law.Goals as goal

pub returns : goal.returns
returns c = kept-law
