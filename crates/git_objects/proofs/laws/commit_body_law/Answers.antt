use Rattle.git_objects.proofs.CommitReading.{commit_law}
use Rattle.git_objects.proofs.laws.commit_body_law.Goals as goal

pub returns : goal.returns
returns c = commit_law
