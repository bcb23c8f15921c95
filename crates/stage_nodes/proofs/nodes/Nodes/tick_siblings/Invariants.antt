use Rattle.std.proofs.Common.{◌≡◌, ◌+◌, true}
use Rattle.stage_nodes.specs.Forests.{is_link, size, target}
use Rattle.stage_nodes.specs.Pools.{Walks, hanging}
use Rattle.stage_nodes.specs.Walks.{breadth}
use Rattle.stage_nodes.proofs.nodes.Nodes.tick_siblings.Given as goal

abbrev pub invariant-siblings : goal.invariant-siblings
invariant-siblings g l = record {
  link : is_link l.self.cells.items l.link ≡ true;
  walk : Walks l.self (target l.self.cells.items l.link);
  counted : l.steps + breadth (hanging l.self l.link) ≡ l.initial.steps + breadth (hanging l.self l.initial.link);
}

abbrev pub decreases-siblings : goal.decreases-siblings
decreases-siblings g l = size (hanging l.self l.link)
