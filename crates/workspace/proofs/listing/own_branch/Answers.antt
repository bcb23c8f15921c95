use Rattle.std.proofs.Common.{◌∙◌, ap}
use Rattle.filter_text.specs.Filters.{chain, exclude, join, more, only, sub}
use Rattle.filter_text.specs.Shapes.{shape, shapes}
use Rattle.filter_text.proofs.RowLists.{shape-chain, shape-join}
use Rattle.workspace.proofs.listing.own_branch.Goals as goal

pub returns : goal.returns
returns c =
    let w = c.args.directory.now in
    shape-chain c.in_ok-vec.field-0
    ∙ ap (λ fs. chain (shapes fs)) c.in_ok-vec.ensures.items
    ∙ ap (λ q. chain (more (sub q) (only (exclude (shape c.in_ok-new.field-0.value))))) c.in_ok-copy.ensures
    ∙ ap (λ f. chain (more (sub w) (only (exclude (shape f))))) c.in_ok-new.ensures.ok
    ∙ ap (λ f. chain (more (sub w) (only (exclude f)))) (shape-join c.in_ok-around_all.field-0)
    ∙ ap (λ fs. chain (more (sub w) (only (exclude (join fs))))) c.in_ok-around_all.ensures
