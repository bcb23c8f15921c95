use Rattle.std.proofs.Common.{◌∙◌, ap, sym, map, take, arith}
use Rattle.filter_text.specs.Filters.{append, file, only}
use Rattle.filter_text.specs.Shapes.{shapes}
use Rattle.filter_text.proofs.RowLists.{pushed}
use Rattle.filter_text.proofs.Resuming.{append-none}
use Rattle.workspace.specs.Workspaces.{filters_of}
use Rattle.workspace.proofs.Lists.{append-again, append-nil, fronts-more, no-front}
use Rattle.workspace.proofs.listing.add_fronts.Goals as goal

pub loop-end-init : goal.loop-end-init
loop-end-init c =
    sym (append-none (shapes c.args.onto.now.items))
    ∙ ap (λ qs. append (shapes c.args.onto.now.items) (filters_of (map file qs))) (sym (no-front c.args.path.now))

pub loop-end-preserved : goal.loop-end-preserved
loop-end-preserved c =
    let p = c.args.path.now in
    let n = c.loop-end.end in
    let old = shapes c.args.onto.now.items in
    pushed c.loop-end.onto.items c.push.new.self.items _ c.in_ok-push.ensures.items
    ∙ ap (λ q. append (shapes c.loop-end.onto.items) (only (file q))) (c.in_ok-of_parts.ensures ∙ append-nil (take n p))
    ∙ ap (λ fs. append fs (only (file (take n p)))) c.loop-end.invariant
    ∙ append-again old _ (only (file (take n p)))
    ∙ ap (append old) (sym (fronts-more p n (omega arith) c.loop-end-test.true))
