use Rattle.std.proofs.Common.{◌≡◌, List, ◌++◌, length}
use Rattle.git_objects.specs.declared.entry.Entry.{Entry}
use Rattle.git_objects.proofs.tree_view.TreeView.pass_same.Given as goal

abbrev pub invariant-entries : goal.invariant-entries
invariant-entries l = (es : List Entry) × (l.fn.self ≡ es ++ l.self) × (l.fn.other ≡ es ++ l.other)

abbrev pub decreases-entries : goal.decreases-entries
decreases-entries l = length l.self
