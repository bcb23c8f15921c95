use Rattle.std.proofs.Common.{◌∙◌, ap}
use Rattle.filter_text.specs.Filters.{append, join, only}
use Rattle.filter_text.specs.Shapes.{shapes}
use Rattle.filter_text.specs.Views.{item_values}
use Rattle.filter_text.proofs.RowLists.{pushed, shape-join}
use Rattle.workspace.specs.Workspaces.{listed, own_branch}
use Rattle.workspace.proofs.listing.listed.Goals as goal

pub returns : goal.returns
unfolding listed
returns c =
    let is = item_values c.args.items.now in
    let w = c.args.directory.now in
    shape-join c.push.new.self
    ∙ ap join (pushed c.in_ok-members.members.items _ _ c.in_ok-push.ensures.items)
    ∙ ap (λ f. join (append (shapes c.in_ok-members.members.items) (only f))) c.in_ok-own.ensures
    ∙ ap (λ fs. join (append fs (only (own_branch w is)))) c.in_ok-members.ensures
