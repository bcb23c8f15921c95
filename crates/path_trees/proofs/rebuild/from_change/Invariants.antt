use Rattle.std.proofs.Common.{◌≡◌, length}
use Rattle.path_trees.proofs.Rebuilding.{IsPassed}
use Rattle.path_trees.proofs.rebuild.from_change.Given as goal

-- entries were passed that the change leaves as they are
abbrev pub invariant-entries : goal.invariant-entries
invariant-entries l = record {
  same : l.ahead ≡ l.rest;
  passed : IsPassed l.component l.change l.fn.entries l.rest;
}

abbrev pub decreases-entries : goal.decreases-entries
decreases-entries l = length l.ahead
