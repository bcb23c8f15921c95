use Rattle.std.proofs.Common.{◌∙◌, sym, Some}
use Rattle.filter_text.specs.Shapes.{shape, shapes}
use Rattle.filter_text.specs.Nesting.{nested, resumed, answer}
use Rattle.filter_text.specs.declared.frame.At.TheVariants as places
use Rattle.filter_text.proofs.RowLists.{pushed}
use Rattle.filter_text.proofs.Resuming.{told, piece_more, piece_last}
use Rattle.filter_text.proofs.reader.after_piece.Goals as goal

pub returns-then-begins-clause-answer : goal.returns-then-begins-clause-answer
returns-then-begins-clause-answer c =
    let frames = nested c.args.frames.now.items in
    let fs = shapes c.args.pieces.now.items in
    let t = c.args.text.now in
    piece_more frames fs (shape c.args.piece) t (sym c.begins.ensures ∙ c.if-begins.true)
    ∙ (λ i. answer frames (sym (pushed c.args.pieces.now.items _ c.args.piece c.in_ok-push.ensures.items) i) places.Piece t)

pub returns-clause-answer : goal.returns-clause-answer
returns-clause-answer c =
    let frames = nested c.args.frames.now.items in
    let fs = shapes c.args.pieces.now.items in
    let t = c.args.text.now in
    told _ _ (nested c.after_chain.new.frames.items) (shapes c.after_chain.new.pieces.items) c.after_chain.result
    (piece_last frames fs (shape c.args.piece) t (sym c.begins.ensures ∙ c.if-begins.false)
    ∙ (λ i. resumed frames (Some (sym (pushed c.args.pieces.now.items _ c.args.piece c.in_ok-push.ensures.items) i, t))))
    c.after_chain.ensures.answer
