use Rattle.std.proofs.Common.{◌≡◌, ◌<◌, ◌≤◌, ◌+◌, ◌-◌, drop, length}
use Rattle.stage_tree.specs.Renames.{IsTrunk}
use Rattle.stage_tree.proofs.renames.graft.Given as goal

abbrev pub invariant-depth : goal.invariant-depth
invariant-depth g l = record {
  low : l.level ≤ l.depth;
  within : l.depth < length l.components;
  trunk : IsTrunk l.fn.nodes l.nodes (drop l.depth l.components) l.fn.content l.end l.number;
  made : l.steps + l.depth ≡ l.fn.steps + length l.components;
}

abbrev pub decreases-depth : goal.decreases-depth
decreases-depth g l = l.depth - l.level
