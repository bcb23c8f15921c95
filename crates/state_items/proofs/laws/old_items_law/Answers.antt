use Rattle.state_items.proofs.ItemTags.{old-items-law}
use Rattle.state_items.proofs.laws.old_items_law.Goals as goal

pub returns : goal.returns
returns c = old-items-law
