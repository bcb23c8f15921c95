use Rattle.incremental_export.proofs.PartedGraphs.{parting_law}
use Rattle.incremental_export.proofs.laws.parting_law.Goals as goal

pub returns : goal.returns
returns c = parting_law
