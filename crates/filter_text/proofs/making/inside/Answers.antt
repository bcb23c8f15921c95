use Rattle.std.proofs.Common.{◌∙◌, arith}
use Rattle.filter_text.proofs.RowLists.{shape-join, inside-join}
use Rattle.filter_text.proofs.making.inside.Goals as goal

pub returns-then-len-ne1 : goal.returns-then-len-ne1
returns-then-len-ne1 c =
    let ok = c.args.members.ok in
    shape-join c.args.members ∙ inside-join c.args.members.items (λ e. c.if-len-ne1.true (omega (arith, ok.0)))
