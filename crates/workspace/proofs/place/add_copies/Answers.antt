use Rattle.std.proofs.Common.{◌∙◌, ap, sym, take}
use Rattle.filter_text.specs.Filters.{append, only}
use Rattle.filter_text.specs.Shapes.{shape, shapes}
use Rattle.filter_text.proofs.RowLists.{pushed}
use Rattle.filter_text.proofs.Resuming.{append-none}
use Rattle.filter_routes.proofs.Members.{members-next}
use Rattle.workspace.proofs.Lists.{append-again}
use Rattle.workspace.proofs.place.add_copies.Goals as goal

pub loop-filter-init : goal.loop-filter-init
loop-filter-init c = sym (append-none (shapes c.args.onto.now.items))

pub loop-filter-preserved : goal.loop-filter-preserved
loop-filter-preserved c =
    let ms = c.args.from.now in
    let i = c.loop-filter.filter-index in
    let m = c.filter-item.result in
    let old = shapes c.args.onto.now.items in
    pushed c.loop-filter.onto.items _ _ c.in_ok-push.ensures.items
    ∙ ap (λ f. append (shapes c.loop-filter.onto.items) (only f)) c.in_ok-copy.ensures.copy
    ∙ ap (λ fs. append fs (only (shape m))) c.loop-filter.invariant
    ∙ append-again old (shapes (take i ms)) (only (shape m))
    ∙ ap (append old) (sym (members-next ms i m c.loop-filter-test.true c.filter-item.is))
