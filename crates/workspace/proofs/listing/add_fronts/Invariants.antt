use Rattle.std.proofs.Common.{◌≡◌, map, take}
use Rattle.filter_text.specs.Filters.{file, append}
use Rattle.filter_text.specs.Shapes.{shapes}
use Rattle.workspace.specs.Workspaces.{filters_of, fronts}
use Rattle.workspace.proofs.listing.add_fronts.Given as goal

abbrev pub invariant-loop-end : goal.invariant-loop-end
invariant-loop-end l = shapes l.onto.items ≡ append (shapes l.fn.onto.items) (filters_of (map file (fronts (take l.end l.path))))
