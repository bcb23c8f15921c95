use Rattle.std.proofs.Common.{sym, subst, IfErr, IfOk}
use Rattle.git_objects.specs.Trees.{Flat}
use Rattle.object_store.specs.Unfolding.{flat}
use Rattle.filter_text.specs.Shapes.{shape}
use Rattle.push_back.specs.Originals.{AreOriginals, Grows, IsMadeFor, IsOriginalError}
use Rattle.history_ground.proofs.HeadLemmas.{head-has, head-tree, head-tree-has}
use Rattle.push_back.proofs.commits.originals.Goals as goal

pub originals_upon-requires-clause-head : goal.originals_upon-requires-clause-head
originals_upon-requires-clause-head c = head-has c.args.ground.now c.args.head.now.0 c.in-Some.place c.requires.ground c.in-Some.ensures.place

pub originals_upon-requires-clause-base : goal.originals_upon-requires-clause-base
originals_upon-requires-clause-base c = head-tree-has c.args.ground.now c.args.head.now.0 c.in-Some.place c.requires.ground c.in-Some.ensures.place c.tree-root.result.0 c.tree-root.ensures

pub returns-clause-ok : goal.returns-clause-ok
returns-clause-ok c = λ cs k.
    let g = c.args.ground.now in
    subst (λ (t : Flat). IfOk c.originals_upon.result (λ names. AreOriginals (shape c.args.filter.now) c.args.head.now.0 t (flat g.store c.args.seen.0) cs c.originals_upon.new.ground.store names.items))
    (sym (head-tree g c.args.head.now.0 c.in-Some.place c.requires.ground c.in-Some.ensures.place c.tree-root.result.0 c.tree-root.ensures))
    (c.originals_upon.ensures.ok cs k)

pub returns-clause-err : goal.returns-clause-err
returns-clause-err c = λ cs k.
    let g = c.args.ground.now in
    subst (λ (t : Flat). IfErr c.originals_upon.result (IsOriginalError (shape c.args.filter.now) c.args.head.now.0 t (flat g.store c.args.seen.0) cs c.originals_upon.new.ground.store))
    (sym (head-tree g c.args.head.now.0 c.in-Some.place c.requires.ground c.in-Some.ensures.place c.tree-root.result.0 c.tree-root.ensures))
    (c.originals_upon.ensures.err cs k)

pub returns-clause-same : goal.returns-clause-same
returns-clause-same c = λ cs k.
    let g = c.args.ground.now in
    subst (λ (t : Flat). Grows (IsMadeFor (shape c.args.filter.now) c.args.head.now.0 t (flat g.store c.args.seen.0) cs) g c.originals_upon.new.ground)
    (sym (head-tree g c.args.head.now.0 c.in-Some.place c.requires.ground c.in-Some.ensures.place c.tree-root.result.0 c.tree-root.ensures))
    (c.originals_upon.ensures.same cs k)
