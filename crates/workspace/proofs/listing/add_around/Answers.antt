use Rattle.std.proofs.Common.{◌≡◌, ◌∙◌, ap, sym, map}
use Rattle.filter_text.specs.Filters.{append, dir, file, more, only}
use Rattle.filter_text.specs.Shapes.{shapes}
use Rattle.filter_text.proofs.RowLists.{pushed}
use Rattle.filter_text.proofs.Resuming.{append-one}
use Rattle.workspace.specs.Workspaces.{filters_of, fronts}
use Rattle.workspace.proofs.Lists.{on-ok}
use Rattle.workspace.proofs.listing.add_around.Goals as goal

pub returns : goal.returns
returns c =
    let q = c.args.place.now in
    let old = shapes c.args.onto.now.items in
    let first : shapes c.push.new.self.items ≡ append old (only (dir q)) =
    pushed c.args.onto.now.items c.push.new.self.items _ c.in_ok-push.ensures.items ∙ ap (λ r. append old (only (dir r))) c.in_ok-copy.ensures in
    let second : shapes c.push-2.new.self.items ≡ append (append old (only (dir q))) (only (file q)) =
    pushed c.push.new.self.items c.push-2.new.self.items _ c.in_ok-push-2.ensures.items
    ∙ ap (λ r. append (shapes c.push.new.self.items) (only (file r))) c.in_ok-copy-2.ensures
    ∙ ap (λ fs. append fs (only (file q))) first in
    on-ok c.add_fronts.result
    (λ e. e
    ∙ ap (λ r. append (shapes c.push-2.new.self.items) (filters_of (map file (fronts r)))) c.components.ensures.components
    ∙ ap (λ fs. append fs (filters_of (map file (fronts q)))) second
    ∙ sym (append-one (append old (only (dir q))) (filters_of (map file (fronts q))) (file q))
    ∙ sym (append-one old (more (file q) (filters_of (map file (fronts q)))) (dir q)))
    c.add_fronts.ensures
