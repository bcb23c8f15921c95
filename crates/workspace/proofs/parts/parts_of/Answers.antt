use Rattle.std.proofs.Common.{◌∙◌, ap, sym}
use Rattle.filter_text.specs.Shapes.{shape, shapes}
use Rattle.filter_text.proofs.RowLists.{shape-chain}
use Rattle.workspace.specs.Workspaces.{split, split_pieces}
use Rattle.workspace.proofs.parts.parts_of.Goals as goal

pub returns-in-Chain : goal.returns-in-Chain
returns-in-Chain c =
    c.parts_among.ensures ∙ ap (λ ms. split_pieces (shapes ms)) c.as_slice.ensures.value
    ∙ sym (ap split (ap shape c.in-Chain.is ∙ shape-chain c.in-Chain.pieces))
