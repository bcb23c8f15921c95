use Rattle.fast_export.proofs.TagsAgain.{tagged_again_law}
use Rattle.fast_export.proofs.laws.tagged_again_law.Goals as goal

pub returns : goal.returns
returns c = tagged_again_law
