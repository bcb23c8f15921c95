use Rattle.std.proofs.Common.{◌≡◌, length}
use Rattle.path_trees.specs.Listed.{found_at}
use Rattle.path_trees.proofs.directory.find.Given as goal

-- no entry so far has the component
abbrev pub invariant-entries : goal.invariant-entries
invariant-entries l = found_at l.component l.entries ≡ found_at l.component l.initial.entries

abbrev pub decreases-entries : goal.decreases-entries
decreases-entries l = length l.entries
