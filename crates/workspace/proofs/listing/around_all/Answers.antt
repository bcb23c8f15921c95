use Rattle.std.proofs.Common.{◌∙◌, ap, sym, flat_map, take}
use Rattle.filter_text.specs.Filters.{append}
use Rattle.filter_text.specs.Views.{item_value, item_values}
use Rattle.workspace.specs.Workspaces.{around, filters_of}
use Rattle.workspace.proofs.Lists.{around-more, values-next}
use Rattle.workspace.proofs.listing.around_all.Goals as goal

pub loop-item-preserved : goal.loop-item-preserved
loop-item-preserved c =
    let is = c.args.items.now in
    let i = c.loop-item.item-index in
    let x = c.item-item.result in
    c.in_ok-add_around.ensures
    ∙ ap (λ fs. append fs (filters_of (around x.place))) c.loop-item.invariant
    ∙ sym (around-more (item_values (take i is)) (item_value x))
    ∙ ap (λ vs. filters_of (flat_map (λ v. around v.0) vs)) (sym (values-next is i x c.loop-item-test.true c.item-item.is))
