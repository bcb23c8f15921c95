use Rattle.std.proofs.Common.{◌≡◌, ◌⊎◌, ◌∙◌, ◌+◌, length, drop, sym, ap, inl, inr, arith, length-drop, is_lt}
use Rattle.git_objects.specs.Paths.{path_cmp}
use Rattle.path_names.proofs.Levels.{level_turn, level_end, told, untold, before-paths}
use Rattle.path_names.proofs.order.before.Goals as goal
use Rattle.path_names.proofs.order.before.Goals.{then-loop-i-test+else-i-b, else-loop-i-test}

pub returns-then-is_ne : goal.returns-then-is_ne
returns-then-is_ne c =
    let a = c.components-a.result.now in
    let b = c.components-b.result.now in
    let i = c.loop-i.i in
    let order = c.level_order-order.result in
    let turn =
    level_turn a b i c.index-a-i.result c.index-b-i.result c.bytes.result.now c.bytes-in-loop-i.result.now order
    c.loop-i-test.true c.if-i-b.true c.index-a-i.is c.index-b-i.is c.bytes.ensures.bytes
    c.bytes-in-loop-i.ensures.bytes c.level_order-order.ensures c.loop-i.invariant.2 in
    c.is_lt.ensures
    ∙ sym (told order (path_cmp (drop (i + 1) a) (drop (i + 1) b)) (sym c.is_ne.ensures ∙ c.if-is_ne.true))
    ∙ ap is_lt (sym turn)
    ∙ (λ i. is_lt (path_cmp (c.components-a.ensures.components i) (c.components-b.ensures.components i)))
    ∙ sym (before-paths c.args.a.now c.args.b.now c.components-a.ensures.path c.components-b.ensures.path)

pub loop-i-preserved : goal.loop-i-preserved
loop-i-preserved c =
    let a = c.components-a.result.now in
    let b = c.components-b.result.now in
    let i = c.loop-i.i in
    let order = c.level_order-order.result in
    let turn =
    level_turn a b i c.index-a-i.result c.index-b-i.result c.bytes.result.now c.bytes-in-loop-i.result.now order
    c.loop-i-test.true c.if-i-b.true c.index-a-i.is c.index-b-i.is c.bytes.ensures.bytes
    c.bytes-in-loop-i.ensures.bytes c.level_order-order.ensures c.loop-i.invariant.2 in
    let same =
    untold order (path_cmp (drop (i + 1) a) (drop (i + 1) b)) (sym c.is_ne.ensures ∙ c.if-is_ne.false) in
    (omega arith, omega arith, sym (turn ∙ same))

pub returns : goal.returns
returns c =
    let a = c.components-a.result.now in
    let b = c.components-b.result.now in
    let i = c.loop-i.i in
    let left_a = length-drop i a in
    let left_b = length-drop i b in
    let at_end : (length (drop i a) ≡ 0) ⊎ (length (drop i b) ≡ 0) =
    elim c.loop-i-test.branch [
      | then-loop-i-test+else-i-b w ↦ inr (omega arith)
      | else-loop-i-test w ↦ inl (omega arith)
    ] in
    level_end (drop i a) (drop i b) i (length a) (length b) at_end (omega arith) (omega arith)
    ∙ ap is_lt c.loop-i.invariant.2
    ∙ (λ i. is_lt (path_cmp (c.components-a.ensures.components i) (c.components-b.ensures.components i)))
    ∙ sym (before-paths c.args.a.now c.args.b.now c.components-a.ensures.path c.components-b.ensures.path)
