use Rattle.std.proofs.Common.{◌++◌, ap, ◌∙◌, arith}
use Rattle.path_names.proofs.Joins.{text_first, text_next}
use Rattle.path_names.proofs.path.joined_text.Goals as goal
use Rattle.path_names.proofs.path.joined_text.Goals.{then-i-gt0+in_ok-push, else-i-gt0}

pub loop-i-preserved : goal.loop-i-preserved
loop-i-preserved c =
    let p = c.args.components.now in
    let x = c.index-components-i.result in
    let so_far = c.loop-i.text.items in
    elim c.if-i-gt0.branch [
      | then-i-gt0+in_ok-push w ↦
          c.in_ok-extend_from_slice.ensures.items
          ∙ (λ j. (ap (λ v. v.items) w.text-is ∙ w.in_ok-push.ensures.items) j ++ c.bytes.ensures.bytes j)
          ∙ text_next p c.loop-i.i x so_far w.if-i-gt0.true c.loop-i-test.true c.index-components-i.is
          c.loop-i.invariant
      | else-i-gt0 w ↦
          c.in_ok-extend_from_slice.ensures.items
          ∙ (λ j. (ap (λ v. v.items) w.text-is) j ++ c.bytes.ensures.bytes j)
          ∙ text_first p c.loop-i.i x so_far (omega arith) c.loop-i-test.true c.index-components-i.is
          c.loop-i.invariant
    ]
