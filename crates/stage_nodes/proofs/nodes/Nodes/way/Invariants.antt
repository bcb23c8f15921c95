use Rattle.std.proofs.Common.{◌≡◌, length}
use Rattle.stage_nodes.specs.Ways.{IsStart, IsStill}
use Rattle.stage_nodes.proofs.nodes.Nodes.way.Given as goal

abbrev pub invariant-loop-level : goal.invariant-loop-level
invariant-loop-level l = record {
  still : IsStill l.store l.initial.self l.self;
  level_is : l.level ≡ length l.passed.items;
  start : IsStart l.store l.self l.components l.passed.items l.link;
}
