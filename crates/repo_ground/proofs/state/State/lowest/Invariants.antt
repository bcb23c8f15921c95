use Rattle.std.proofs.Common.{◌≤◌, length, take}
use Rattle.repo_ground.specs.Keeping.{AreFrom}
use Rattle.repo_ground.proofs.state.State.lowest.Given as goal

abbrev pub invariant-loop-i : goal.invariant-loop-i
invariant-loop-i l = record {
  within : l.lowest ≤ length l.self-inside.ground.graph;
  before : AreFrom l.self-inside.ground.graph l.lowest (take l.i l.fresh);
}
