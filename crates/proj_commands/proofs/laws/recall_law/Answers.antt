-- Proves what src/laws.rt needs of `recall_law`.
use Rattle.proj_commands.proofs.Recalling.{recall}
use Rattle.proj_commands.proofs.laws.recall_law.Goals as goal

pub returns : goal.returns
returns c = recall c.projection_law.ensures
