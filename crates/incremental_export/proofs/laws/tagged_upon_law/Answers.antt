use Rattle.incremental_export.proofs.Turning.{changing}
use Rattle.incremental_export.proofs.UponTags.{tagged_upon}
use Rattle.incremental_export.proofs.laws.tagged_upon_law.Goals as goal

pub returns : goal.returns
returns c = tagged_upon changing
