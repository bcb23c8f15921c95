use Rattle.std.proofs.Common.{◌<◌, length, arith, subst}
use Rattle.std.proofs.lemmas.List.{take_all}
use Rattle.commit_graph.specs.Marks.{AddsMarks}
use Rattle.commit_graph.proofs.Reaching.{marks-more, marks-past}
use Rattle.commit_graph.proofs.marks.mark_all.Goals as goal
use Rattle.commit_graph.proofs.marks.mark_all.Goals.{then-place-low, else-place-low}

pub loop-place-preserved : goal.loop-place-preserved
loop-place-preserved c =
    let k = c.loop-place.place-index in
    let low = c.args.low in
    let inside : k < length c.args.places.now = omega arith in
    let within = c.requires k 0 inside in
    elim c.if-place-low.branch [
      | then-place-low w ↦
          let behind = w.if-place-low.true in
          rw w.marks-is (marks-more low _ _ c.args.places.now k c.loop-place.invariant inside (omega (arith, behind)) (omega (arith, within)))
      | else-place-low w ↦
          let before = w.if-place-low.false in
          rw w.marks-is (marks-past low _ _ c.args.places.now k c.loop-place.invariant inside (omega (arith, before)))
    ]

pub returns : goal.returns
returns c = subst (λ ps. AddsMarks c.args.low c.args.marks.now c.loop-place.marks ps) (take_all c.loop-place.place-index c.args.places.now (omega arith)) c.loop-place.invariant
