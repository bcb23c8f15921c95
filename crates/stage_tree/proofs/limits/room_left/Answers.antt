use Rattle.std.proofs.Common.{refl, sym, ap, ◌∙◌, length, drop, ◌+◌, arith}
use Rattle.path_trees.proofs.Lookups.{read_at}
use Rattle.stage_tree.specs.Limits.{cost, room_left, weight}
use Rattle.stage_tree.proofs.Fits.{cost_drop, cost_end, left_all, left_more, left_none}
use Rattle.stage_tree.proofs.limits.room_left.Goals as goal

pub loop-i-init : goal.loop-i-init
loop-i-init c = refl

pub returns-then-weight-left : goal.returns-then-weight-left
returns-then-weight-left c =
    let p = c.args.components.now in
    let own = read_at p p c.loop-i.i c.index-components-i.result c.bytes.result.now refl c.bytes.ensures.bytes c.index-components-i.is in
    left_none c.loop-i.left (weight c.args.measure (length c.bytes.result.now)) (cost c.args.measure (drop (c.loop-i.i + 1) p)) (omega arith)
    ∙ ap (room_left c.loop-i.left) (sym (cost_drop c.args.measure p c.loop-i.i c.bytes.result.now (omega arith) own))
    ∙ c.loop-i.invariant

pub loop-i-preserved : goal.loop-i-preserved
loop-i-preserved c =
    let p = c.args.components.now in
    let own = read_at p p c.loop-i.i c.index-components-i.result c.bytes.result.now refl c.bytes.ensures.bytes c.index-components-i.is in
    left_more c.loop-i.left c.weight-weight.result (cost c.args.measure (drop (c.loop-i.i + 1) p)) (omega arith)
    ∙ ap (λ w. room_left c.loop-i.left (w + cost c.args.measure (drop (c.loop-i.i + 1) p))) c.weight-weight.ensures
    ∙ ap (room_left c.loop-i.left) (sym (cost_drop c.args.measure p c.loop-i.i c.bytes.result.now (omega arith) own))
    ∙ c.loop-i.invariant

pub returns : goal.returns
returns c =
    let p = c.args.components.now in
    left_all c.loop-i.left (cost c.args.measure (drop c.loop-i.i p)) (cost_end c.args.measure p c.loop-i.i (omega arith))
    ∙ c.loop-i.invariant
