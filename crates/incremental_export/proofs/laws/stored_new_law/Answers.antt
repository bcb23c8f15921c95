use Rattle.incremental_export.proofs.UponStores.{stored_new}
use Rattle.incremental_export.proofs.laws.stored_new_law.Goals as goal

pub returns : goal.returns
returns c = stored_new
