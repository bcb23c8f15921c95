use Rattle.std.proofs.Common.{◌≡◌, ◌++◌, length}
use Rattle.git_objects.specs.Entries.{AreEntries, body_text}
use Rattle.path_trees.specs.Listed.{changed}
use Rattle.path_trees.proofs.rebuild.add_changed.Given as goal

-- what is added, and what is left with the entry that waits
abbrev pub invariant-entries : goal.invariant-entries
invariant-entries l = record {
  same : l.ahead ≡ l.rest;
  order : AreEntries l.rest;
  text : l.body.items ++ body_text (changed l.component l.waiting l.rest) ≡ l.fn.body.items ++ body_text (changed l.component l.fn.change l.fn.entries);
}

abbrev pub decreases-entries : goal.decreases-entries
decreases-entries l = length l.ahead
