use Rattle.std.proofs.Common.{◌∙◌, ap, sym}
use Rattle.filter_text.specs.Items.{items_from, with_item}
use Rattle.filter_text.specs.Views.{item_value, item_values, next_read}
use Rattle.filter_text.proofs.Files.{behind_items, items_more, items_begin, values-push}
use Rattle.filter_text.proofs.items.read_items.Goals as goal

pub loop-rest-init : goal.loop-rest-init
loop-rest-init c =
    let t = c.args.text.now in
    (λ i. behind_items (item_values (c.new-items.ensures.items i)) (items_from 1024 (ap (λ x. x.1) c.gap.ensures i)))
    ∙ items_begin 1024 t

pub loop-rest-preserved : goal.loop-rest-preserved
loop-rest-preserved c =
    let done = item_values c.loop-rest.items.items in
    let o = items_from c.in-Some.left c.in-Some.behind.now in
    let i = item_value c.in-Some.item in
    ap (λ is. behind_items is o) (values-push c.loop-rest.items.items _ _ c.in_ok-push-in-Some.ensures.items)
    ∙ sym (items_more done i o)
    ∙ ap (behind_items done) (sym (c.in_ok-next_item.ensures.item ∙ ap (λ r. with_item (next_read r)) c.in-Some.is))
    ∙ c.loop-rest.invariant
