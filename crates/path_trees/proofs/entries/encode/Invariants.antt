use Rattle.std.proofs.Common.{◌≡◌, take, map}
use Rattle.git_objects.specs.Entries.{body_text}
use Rattle.git_objects.specs.Views.{entry_value}
use Rattle.path_trees.proofs.entries.encode.Given as goal

abbrev pub invariant-loop-entry : goal.invariant-loop-entry
invariant-loop-entry l = l.body.items ≡ body_text (map entry_value (take l.entry-index l.entries))
