use Rattle.std.proofs.Common.{◌≡◌, length}
use Rattle.std.specs.Option.{is_some}
use Rattle.git_objects.specs.Bodies.{tree_entries}
use Rattle.git_objects.proofs.tree_view.TreeView.of.Given as goal

abbrev pub invariant-entries : goal.invariant-entries
invariant-entries l = is_some (tree_entries l.rest) ≡ is_some (tree_entries l.body)

abbrev pub decreases-entries : goal.decreases-entries
decreases-entries l = length l.rest
