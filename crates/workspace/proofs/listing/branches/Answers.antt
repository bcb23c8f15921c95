use Rattle.std.proofs.Common.{◌∙◌, ap, sym, map, take}
use Rattle.filter_text.specs.Filters.{append, only}
use Rattle.filter_text.specs.Shapes.{shape, shapes}
use Rattle.filter_text.specs.Views.{item_value, item_values}
use Rattle.filter_text.proofs.RowLists.{pushed}
use Rattle.workspace.specs.Workspaces.{filters_of}
use Rattle.workspace.proofs.Lists.{branches-more, values-next}
use Rattle.workspace.proofs.listing.branches.Goals as goal

pub loop-item-preserved : goal.loop-item-preserved
loop-item-preserved c =
    let is = c.args.items.now in
    let i = c.loop-item.item-index in
    let x = c.item-item.result in
    pushed c.loop-item.branches.items _ _ c.in_ok-push.ensures.items
    ∙ ap (λ f. append (shapes c.loop-item.branches.items) (only f)) c.in_ok-copy.ensures.copy
    ∙ ap (λ fs. append fs (only (shape x.filter))) c.loop-item.invariant
    ∙ sym (branches-more (item_values (take i is)) (item_value x))
    ∙ ap (λ vs. filters_of (map (λ v. v.1) vs)) (sym (values-next is i x c.loop-item-test.true c.item-item.is))
