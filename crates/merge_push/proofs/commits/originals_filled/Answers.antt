use Rattle.std.proofs.Common.{List, sym, subst, Err, IsSome}
use Rattle.commit_graph.specs.Graphs.{Row, place_of}
use Rattle.filter_text.specs.Shapes.{shape}
use Rattle.push_back.specs.declared.refusal.TreeRefusal.{TreeRefusal}
use Rattle.merge_push.specs.Originals.{AreWorkedOut, IsMadeOver}
use Rattle.merge_push.proofs.Ending.{firsts-filled, not-filled, pushed-filled, widened, widens-filled, worked-filled}
use Rattle.merge_push.proofs.commits.originals_filled.Goals as goal

pub originals_upon-requires-clause-ground : goal.originals_upon-requires-clause-ground
originals_upon-requires-clause-ground c = c.fill.ensures.filled.same.ground

pub originals_upon-requires-clause-map : goal.originals_upon-requires-clause-map
originals_upon-requires-clause-map c = c.fill.ensures.filled.true_map

pub originals_upon-requires-clause-head : goal.originals_upon-requires-clause-head
originals_upon-requires-clause-head c = subst (λ (rows : List Row). IsSome (place_of c.args.head.now.0 rows)) (sym c.fill.ensures.filled.same.graph) c.requires.head

pub originals_upon-requires-clause-origins : goal.originals_upon-requires-clause-origins
originals_upon-requires-clause-origins c =
    firsts-filled (shape c.args.filter.now) c.args.head.now.0 c.args.ground.now c.fill.new.ground c.requires.ground c.fill.ensures.filled c.args.origins.now c.requires.origins

pub originals_upon-requires-clause-commits : goal.originals_upon-requires-clause-commits
originals_upon-requires-clause-commits c =
    let w = c.requires.commits in
    (w.0, pushed-filled (shape c.args.filter.now) c.args.head.now.0 c.args.ground.now c.fill.new.ground c.requires.ground c.fill.ensures.filled c.args.commits.now w.0 w.1)

pub returns-in-Ok-clause-worked : goal.returns-in-Ok-clause-worked
returns-in-Ok-clause-worked c = λ cs k.
    let f = shape c.args.filter.now in
    let n = c.args.head.now.0 in
    let g = c.args.ground.now in
    let h = c.fill.new.ground in
    let p = pushed-filled f n g h c.requires.ground c.fill.ensures.filled c.args.commits.now cs k in
    worked-filled f n g h c.requires.ground c.fill.ensures.filled cs c.originals_upon.new.ground c.originals_upon.result (c.originals_upon.ensures.worked cs p) (c.originals_upon.ensures.same cs p)

pub returns-in-Ok-clause-same : goal.returns-in-Ok-clause-same
returns-in-Ok-clause-same c = λ cs k.
    let f = shape c.args.filter.now in
    let n = c.args.head.now.0 in
    let g = c.args.ground.now in
    let h = c.fill.new.ground in
    let p = pushed-filled f n g h c.requires.ground c.fill.ensures.filled c.args.commits.now cs k in
    widened f n g h c.requires.ground c.fill.ensures.filled cs c.originals_upon.new.ground c.originals_upon.result (c.originals_upon.ensures.worked cs p) (c.originals_upon.ensures.same cs p)

pub returns-in-Err-clause-worked : goal.returns-in-Err-clause-worked
returns-in-Err-clause-worked c = λ cs k.
    let f = shape c.args.filter.now in
    let n = c.args.head.now.0 in
    let g = c.args.ground.now in
    let h = c.fill.new.ground in
    subst (λ (e : TreeRefusal). AreWorkedOut f g n cs (IsMadeOver f g n cs) h.store (Err (record { n = 1; refusal = e }))) (sym c.from.ensures)
    (not-filled f n g h c.requires.ground c.fill.ensures.filled cs c.in-Err.error c.in-Err.ensures.err)

pub returns-in-Err-clause-same : goal.returns-in-Err-clause-same
returns-in-Err-clause-same c = λ cs k. widens-filled (shape c.args.filter.now) c.args.head.now.0 c.args.ground.now c.fill.new.ground c.requires.ground c.fill.ensures.filled cs
