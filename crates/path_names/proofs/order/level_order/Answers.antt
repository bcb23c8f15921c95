use Rattle.std.proofs.Common.{◌⊎◌, ◌≤◌, length, nat_cmp, sym, ◌∙◌, arith}
use Rattle.std.specs.Option.{option_cmp}
use Rattle.std.specs.Ordering.{ordering_then}
use Rattle.git_objects.proofs.Basics.{plain-component}
use Rattle.path_names.proofs.Levels.{level_is}
use Rattle.path_names.proofs.order.level_order.Goals as goal

pub returns : goal.returns
returns c =
    let x = c.args.c.now in
    let y = c.args.d.now in
    let n = c.min-n.result in
    let shorter : (length x ≤ n) ⊎ (length y ≤ n) = grind arith in
    let next = c.cmp-2.ensures ∙ (λ j. option_cmp nat_cmp (c.byte_at.ensures j) (c.byte_at-2.ensures j)) in
    c.then.ensures
    ∙ (λ i. ordering_then (c.cmp.ensures i) (next i))
    ∙ sym (level_is x c.args.c_more y c.args.d_more n (omega arith) (omega arith) shorter
    (plain-component x c.requires.c) (plain-component y c.requires.d))
