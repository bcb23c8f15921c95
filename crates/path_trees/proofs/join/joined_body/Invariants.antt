use Rattle.std.proofs.Common.{◌≡◌, ◌+◌, ◌≤◌, ◌++◌, length, drop}
use Rattle.git_objects.specs.Entries.{body_text}
use Rattle.path_trees.specs.Merged.{merged, shared, with_names}
use Rattle.path_trees.proofs.join.joined_body.Given as goal

-- what was added, and what is left; a name for each directory that is left
abbrev pub invariant-pairs : goal.invariant-pairs
invariant-pairs l = record {
  same : l.body.items ++ body_text (with_names (merged l.left l.right) (drop l.next l.names)) ≡ l.initial.body.items ++ body_text (with_names (merged l.initial.left l.initial.right) (drop l.initial.next l.names));
  names : l.next + length (shared (merged l.left l.right)) ≤ length l.names;
}

abbrev pub decreases-pairs : goal.decreases-pairs
decreases-pairs l = length (merged l.left l.right)
