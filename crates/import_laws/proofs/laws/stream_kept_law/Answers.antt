use Rattle.import_laws.proofs.StreamsKept.{stream-kept-law}
use Rattle.import_laws.proofs.laws.stream_kept_law.Goals as goal

pub returns : goal.returns
returns c = stream-kept-law
