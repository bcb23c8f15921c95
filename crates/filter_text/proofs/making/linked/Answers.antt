use Rattle.std.proofs.Common.{◌∙◌, arith}
use Rattle.filter_text.proofs.RowLists.{shape-chain, linked-chain}
use Rattle.filter_text.proofs.making.linked.Goals as goal

pub returns-then-len-ne1 : goal.returns-then-len-ne1
returns-then-len-ne1 c =
    let ok = c.args.pieces.ok in
    shape-chain c.args.pieces ∙ linked-chain c.args.pieces.items (λ e. c.if-len-ne1.true (omega (arith, ok.0)))
