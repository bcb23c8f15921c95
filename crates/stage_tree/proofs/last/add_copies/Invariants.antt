use Rattle.std.proofs.Common.{◌≡◌, ◌++◌, take}
use Rattle.stage_tree.proofs.last.add_copies.Given as goal

abbrev pub invariant-loop-component : goal.invariant-loop-component
invariant-loop-component l = l.onto.items ≡ l.initial.onto.items ++ take l.component-index l.components
