use Rattle.std.proofs.Common.{take}
use Rattle.stage_nodes.specs.Ways.{IsDirOf}
use Rattle.stage_nodes.specs.Walks.{IsWalkable}
use Rattle.stage_nodes.proofs.nodes.Nodes.walk.Given as goal

abbrev pub invariant-loop-level : goal.invariant-loop-level
invariant-loop-level l = (h : IsWalkable l.self) → IsDirOf h.objects l.self (take l.level l.components) l.directory
