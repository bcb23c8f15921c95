use Rattle.stage_nodes.specs.Expanding.{AreChildren}
use Rattle.std.proofs.Common.{vec_len}
use Rattle.stage_nodes.proofs.nodes.Nodes.start.Given as goal

abbrev pub invariant-children : goal.invariant-children
invariant-children l = record { children : AreChildren l.self l.directory l.children.items }

abbrev pub decreases-children : goal.decreases-children
decreases-children l = vec_len l.children
