use Rattle.import_laws.proofs.Replaying.{replayed-law}
use Rattle.import_laws.proofs.laws.replayed_law.Goals as goal

pub returns : goal.returns
returns c = replayed-law
