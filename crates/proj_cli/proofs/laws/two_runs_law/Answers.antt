-- Proves what src/laws.rt needs of `two_runs_law`.
use Rattle.proj_cli.proofs.TwoRuns.{two-runs-law}
use Rattle.proj_cli.proofs.laws.two_runs_law.Goals as goal

pub returns : goal.returns
returns c = two-runs-law
