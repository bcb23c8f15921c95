-- Proves what src/laws.rt needs of `alike_law`.
use Rattle.proj_commands.proofs.Alike.{alike-law}
use Rattle.proj_commands.proofs.laws.alike_law.Goals as goal

pub returns : goal.returns
returns c = alike-law
