use Rattle.std.proofs.Common.{◌≡◌, take}
use Rattle.filter_text.specs.Filters.{append}
use Rattle.filter_text.specs.Shapes.{shapes}
use Rattle.workspace.proofs.place.add_copies.Given as goal

abbrev pub invariant-loop-filter : goal.invariant-loop-filter
invariant-loop-filter l = shapes l.onto.items ≡ append (shapes l.fn.onto.items) (shapes (take l.filter-index l.from))
