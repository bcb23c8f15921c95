use Rattle.push_laws.proofs.GivenStreams.{given-law}
use Rattle.push_laws.proofs.laws.given_law.Goals as goal

pub returns : goal.returns
returns c = given-law
