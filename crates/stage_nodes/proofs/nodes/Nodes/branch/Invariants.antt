use Rattle.std.proofs.Common.{◌<◌, ◌≤◌, ◌-◌, drop, length}
use Rattle.stage_nodes.specs.Branches.{IsBranch}
use Rattle.stage_nodes.proofs.nodes.Nodes.branch.Given as goal

abbrev pub invariant-depth : goal.invariant-depth
invariant-depth l = record {
  low : l.level ≤ l.depth;
  within : l.depth < length l.components;
  branch : IsBranch l.fn.self l.self (drop l.depth l.components) l.fn.found l.number;
}

abbrev pub decreases-depth : goal.decreases-depth
decreases-depth l = l.depth - l.level
