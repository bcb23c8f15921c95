use Rattle.push_laws.proofs.Pushing.{pushed-law}
use Rattle.push_laws.proofs.laws.pushed_law.Goals as goal

pub returns : goal.returns
returns c = pushed-law
