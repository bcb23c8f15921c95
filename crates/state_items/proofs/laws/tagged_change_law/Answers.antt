use Rattle.state_items.proofs.TagPlans.{tagged-change-law}
use Rattle.state_items.proofs.laws.tagged_change_law.Goals as goal

pub returns : goal.returns
returns c = tagged-change-law
