-- Proves what src/laws.rt needs of `ground_law`.
use Rattle.repo_ground.proofs.laws.ground_law.Goals as goal
use Rattle.repo_ground.proofs.GroundLaws.{ground-law}

-- src/laws.rt:6:1
pub returns : goal.returns
returns c = ground-law
