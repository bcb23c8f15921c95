use Rattle.std.proofs.Common.{◌≡◌, ◌+◌, ◌≤◌, true, take}
use Rattle.git_objects.specs.Paths.{Path}
use Rattle.git_objects.specs.Trees.{Flat}
use Rattle.stage_nodes.specs.Branches.{Stands}
use Rattle.stage_nodes.specs.Walks.{StaysClear, beginnings, beside, entries_of, is_clear}
use Rattle.stage_nodes.specs.Ways.{IsDirOf, IsStill, kids_of}
use Rattle.stage_nodes.proofs.nodes.Nodes.open_way.Given as goal

abbrev pub invariant-loop-level : goal.invariant-loop-level
invariant-loop-level g l = record {
  still : IsStill l.store l.initial.self l.self;
  kept : StaysClear l.initial.self l.self;
  dir : IsDirOf l.store l.self (take l.level l.components) l.directory;
  paid : (t : Flat) → Stands l.store l.initial.self t → (z : Path) → is_clear (kids_of l.initial.self) z ≡ true → l.steps + entries_of t (beside z (beginnings l.components 1)) ≤ l.initial.steps + entries_of t (beside z (beginnings l.components (l.level + 1)));
}
