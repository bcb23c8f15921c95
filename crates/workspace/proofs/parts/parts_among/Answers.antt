use Rattle.std.proofs.Common.{◌∙◌, ap, sym, Some, ◌+◌, take}
use Rattle.std.specs.Option.{option_copied}
use Rattle.filter_text.specs.Shapes.{shapes}
use Rattle.workspace.proofs.Splits.{from-place, split-here, split-past}
use Rattle.workspace.proofs.parts.parts_among.Goals as goal

pub returns-in-Some : goal.returns-in-Some
returns-in-Some c =
    let ms = c.args.pieces.now in
    let i = c.loop-i.i in
    ap (λ fs. Some (record { before = shapes (take i ms); directory = c.in-Some.directory.now; behind = shapes fs })) (from-place ms (i + 1))
    ∙ sym (split-here ms i c.index-pieces-i.result c.in-Some.directory.now c.loop-i-test.true c.index-pieces-i.is c.loop-i.invariant
    (sym c.directory_of.ensures ∙ ap option_copied c.in-Some.is))

pub loop-i-preserved : goal.loop-i-preserved
loop-i-preserved c =
    split-past c.args.pieces.now c.loop-i.i c.index-pieces-i.result c.loop-i-test.true c.index-pieces-i.is c.loop-i.invariant
    (sym c.directory_of.ensures ∙ ap option_copied c.in_default.is)
