use Rattle.std.proofs.Common.{◌≡◌, length}
use Rattle.path_trees.specs.Searches.{IsFrom}
use Rattle.path_trees.proofs.finder.sought.Given as goal

abbrev pub invariant-entries : goal.invariant-entries
invariant-entries l = record {
  same : l.ahead ≡ l.rest;
  from : IsFrom l.component l.fn.entries l.rest;
}

abbrev pub decreases-entries : goal.decreases-entries
decreases-entries l = length l.ahead
