use Rattle.incremental_export.proofs.Turning.{changing}
use Rattle.incremental_export.proofs.UponReading.{read_upon}
use Rattle.incremental_export.proofs.laws.read_upon_law.Goals as goal

pub returns : goal.returns
returns c = read_upon changing
