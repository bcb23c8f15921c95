use Rattle.import_laws.proofs.SmallReplaying.{small-law}
use Rattle.import_laws.proofs.laws.small_law.Goals as goal

pub returns : goal.returns
returns c = small-law
