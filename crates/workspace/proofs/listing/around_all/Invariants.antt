use Rattle.std.proofs.Common.{◌≡◌, flat_map, take}
use Rattle.filter_text.specs.Shapes.{shapes}
use Rattle.filter_text.specs.Views.{item_values}
use Rattle.workspace.specs.Workspaces.{around, filters_of}
use Rattle.workspace.proofs.listing.around_all.Given as goal

abbrev pub invariant-loop-item : goal.invariant-loop-item
invariant-loop-item l = shapes l.kept.items ≡ filters_of (flat_map (λ i. around i.0) (item_values (take l.item-index l.items)))
