use Rattle.stream_reader.proofs.SpelledWhole.{spelling_law}
use Rattle.stream_reader.proofs.laws.spelling_law.Goals as goal

pub returns : goal.returns
returns c = spelling_law
