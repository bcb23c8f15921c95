use Rattle.std.proofs.Common.{refl}
use Rattle.stage_nodes.proofs.nodes.Nodes.point.Goals as goal

pub returns-in-First-clause-names : goal.returns-in-First-clause-names
returns-in-First-clause-names c = refl

pub returns-in-First-clause-free : goal.returns-in-First-clause-free
returns-in-First-clause-free c = refl

pub returns-in-Next-clause-names : goal.returns-in-Next-clause-names
returns-in-Next-clause-names c = refl

pub returns-in-Next-clause-free : goal.returns-in-Next-clause-free
returns-in-Next-clause-free c = refl
