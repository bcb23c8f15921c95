use Rattle.import_laws.proofs.ReadCommands.{reader-law}
use Rattle.import_laws.proofs.laws.reader_law.Goals as goal

pub returns : goal.returns
returns c = reader-law
