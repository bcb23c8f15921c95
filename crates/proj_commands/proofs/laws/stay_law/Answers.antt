-- Proves what src/laws.rt needs of `stay_law`.
use Rattle.proj_commands.proofs.Staying.{stay}
use Rattle.proj_commands.proofs.laws.stay_law.Goals as goal

pub returns : goal.returns
returns c = stay
