-- Proves what src/laws.rt needs of `grown_law`.
use Rattle.repo_ground.proofs.laws.grown_law.Goals as goal
use Rattle.repo_ground.proofs.GrownLaws.{grown-law}

-- src/laws.rt:12:1
pub returns : goal.returns
returns c = grown-law
