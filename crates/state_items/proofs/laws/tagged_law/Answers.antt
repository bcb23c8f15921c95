use Rattle.state_items.proofs.TagPlans.{tagged-law}
use Rattle.state_items.proofs.laws.tagged_law.Goals as goal

pub returns : goal.returns
returns c = tagged-law
