use Rattle.import_laws.proofs.ImportsKept.{import-kept-law}
use Rattle.import_laws.proofs.laws.import_kept_law.Goals as goal

pub returns : goal.returns
returns c = import-kept-law
