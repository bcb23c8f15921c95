use Rattle.state_items.proofs.InHand.{hand-law}
use Rattle.state_items.proofs.laws.hand_law.Goals as goal

pub returns : goal.returns
returns c = hand-law
