use Rattle.std.proofs.Common.{◌≡◌, true}
use Rattle.stage_nodes.specs.Forests.{is_link, size, target}
use Rattle.stage_nodes.specs.Pools.{Walks, hanging}
use Rattle.stage_nodes.proofs.nodes.Nodes.room_for.Given as goal

abbrev pub invariant-children : goal.invariant-children
invariant-children l = record {
  place : is_link l.self.cells.items l.link ≡ true;
  walk : Walks l.self (target l.self.cells.items l.link);
}

abbrev pub decreases-children : goal.decreases-children
decreases-children l = size (hanging l.self l.link)
