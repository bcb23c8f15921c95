use Rattle.std.proofs.Common.{◌≤◌, length, min, sym, ◌∙◌, arith}
use Rattle.path_trees.proofs.Searching.{below_end}
use Rattle.path_trees.proofs.finder.precedes.Goals as goal

pub returns : goal.returns
returns c =
    let a = c.args.a.now in
    let b = c.args.b.now in
    let count = c.min-n.ensures in
    let end : min (length a) (length b) ≤ c.loop-i.i = omega arith in
    sym (below_end a b c.loop-i.i end) ∙ c.loop-i.invariant
