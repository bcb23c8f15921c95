use Rattle.std.proofs.Common.{◌≡◌, ◌+◌, length}
use Rattle.stage_nodes.specs.Forests.{forest, size}
use Rattle.stage_nodes.specs.Pools.{IsChain, Walks, spare}
use Rattle.stage_nodes.proofs.nodes.Nodes.reachable.Given as goal

abbrev pub invariant-free : goal.invariant-free
invariant-free l = record {
  walk : Walks l.self l.top;
  chain : IsChain (forest l.self.names.items l.self.cells.items l.top);
  counted : l.count + size (spare l.self) ≡ length l.self.cells.items + size (forest l.self.names.items l.self.cells.items l.top);
}

abbrev pub decreases-free : goal.decreases-free
decreases-free l = size (forest l.self.names.items l.self.cells.items l.top)
