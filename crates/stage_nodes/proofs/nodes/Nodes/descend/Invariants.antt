use Rattle.stage_nodes.specs.Closing.{IsTurn}
use Rattle.stage_nodes.specs.Forests.{size}
use Rattle.stage_nodes.specs.Pools.{hanging}
use Rattle.stage_nodes.proofs.nodes.Nodes.descend.Given as goal

abbrev pub invariant-nodes : goal.invariant-nodes
invariant-nodes l = IsTurn l.self l.entered.items l.link

abbrev pub decreases-nodes : goal.decreases-nodes
decreases-nodes l = size (hanging l.self l.link)
