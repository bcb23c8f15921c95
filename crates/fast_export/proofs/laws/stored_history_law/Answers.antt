use Rattle.fast_export.proofs.StoredAgain.{stored_history_law}
use Rattle.fast_export.proofs.laws.stored_history_law.Goals as goal

pub returns : goal.returns
returns c = stored_history_law
