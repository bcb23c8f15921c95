use Rattle.std.proofs.Common.{◌≡◌, true}
use Rattle.stage_nodes.specs.Forests.{IsWalk, size, forest_behind, is_link, sought, target}
use Rattle.stage_nodes.proofs.nodes.Nodes.seek.Given as goal

abbrev pub invariant-siblings : goal.invariant-siblings
invariant-siblings l = record {
  link : is_link l.self.cells.items l.link ≡ true;
  walk : IsWalk l.self.names.items l.self.cells.items (target l.self.cells.items l.link);
  same : sought l.component l.link (forest_behind l.self.names.items l.self.cells.items l.link) ≡ sought l.component l.initial.link (forest_behind l.self.names.items l.self.cells.items l.initial.link);
}

abbrev pub decreases-siblings : goal.decreases-siblings
decreases-siblings l = size (forest_behind l.self.names.items l.self.cells.items l.link)
