use Rattle.std.proofs.Common.{◌-◌, ◌<◌, ◌≤◌, true, false, length, arith, subst}
use Rattle.commit_graph.specs.Graphs.{IsGraph}
use Rattle.commit_graph.proofs.Reaching.{list-take, list-skip, list-end, mark-read}
use Rattle.commit_graph.proofs.graph.Graph.ancestors_from.Goals as goal
use Rattle.commit_graph.proofs.graph.Graph.ancestors_from.Goals.{then-index+in_ok-push, else-index}

pub loop-i-preserved : goal.loop-i-preserved
loop-i-preserved c =
    let ms = c.in_ok-marks.marks.items in
    let low = c.args.low in
    let i = c.loop-i.i in
    let behind : low ≤ i = omega arith in
    let inside : i - low < length ms = let n = c.in_ok-marks.ensures.long in omega (arith, n) in
    elim c.if-index.branch [
      | then-index+in_ok-push w ↦
          rw w.found-is (rw w.in_ok-push.ensures.items (list-take low ms _ i behind c.loop-i.invariant (mark-read ms (i - low) _ true inside c.index.ensures w.if-index.true)))
      | else-index w ↦
          rw w.found-is (list-skip low ms _ i c.loop-i.invariant (mark-read ms (i - low) _ false inside c.index.ensures w.if-index.false))
    ]

pub returns-clause-exact : goal.returns-clause-exact
returns-clause-exact c = list-end _ _ _ _ _ c.loop-i.i (subst IsGraph c.self.view_is c.self.invariant.graph) c.in_ok-marks.ensures c.loop-i.invariant (omega arith)
