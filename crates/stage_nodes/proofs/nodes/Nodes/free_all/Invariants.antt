use Rattle.stage_nodes.specs.Pools.{IsFreeing}
use Rattle.stage_nodes.specs.Forests.{forest, weight}
use Rattle.stage_nodes.proofs.nodes.Nodes.free_all.Given as goal

abbrev pub invariant-nodes : goal.invariant-nodes
invariant-nodes l = IsFreeing l.initial.self l.self l.initial.top l.top

abbrev pub decreases-nodes : goal.decreases-nodes
decreases-nodes l = weight (forest l.self.names.items l.self.cells.items l.top)
