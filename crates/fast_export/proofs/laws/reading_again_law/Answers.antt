use Rattle.fast_export.proofs.ReadingAgain.{reading_again_law}
use Rattle.fast_export.proofs.laws.reading_again_law.Goals as goal

pub returns : goal.returns
returns c = reading_again_law
