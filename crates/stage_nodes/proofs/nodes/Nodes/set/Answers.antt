use Rattle.std.proofs.Common.{refl}
use Rattle.stage_nodes.proofs.nodes.Nodes.set.Goals as goal

pub returns-clause-names : goal.returns-clause-names
returns-clause-names c = refl

pub returns-clause-free : goal.returns-clause-free
returns-clause-free c = refl
