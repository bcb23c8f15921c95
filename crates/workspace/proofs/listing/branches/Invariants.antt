use Rattle.std.proofs.Common.{◌≡◌, map, take}
use Rattle.filter_text.specs.Shapes.{shapes}
use Rattle.filter_text.specs.Views.{item_values}
use Rattle.workspace.specs.Workspaces.{filters_of}
use Rattle.workspace.proofs.listing.branches.Given as goal

abbrev pub invariant-loop-item : goal.invariant-loop-item
invariant-loop-item l = shapes l.branches.items ≡ filters_of (map (λ i. i.1) (item_values (take l.item-index l.items)))
