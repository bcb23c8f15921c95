use Rattle.incremental_export.proofs.StoredUnreached.{stored_unreached_law}
use Rattle.incremental_export.proofs.laws.stored_unreached_law.Goals as goal

pub returns : goal.returns
returns c = stored_unreached_law
