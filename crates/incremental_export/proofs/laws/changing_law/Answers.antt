use Rattle.incremental_export.proofs.Turning.{changing}
use Rattle.incremental_export.proofs.laws.changing_law.Goals as goal

pub returns : goal.returns
returns c = changing
