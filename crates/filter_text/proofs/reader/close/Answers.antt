use Rattle.std.proofs.Common.{◌∙◌, ap, sym}
use Rattle.filter_text.specs.Shapes.{shapes}
use Rattle.filter_text.specs.Reading.{more_pieces, pieces_at}
use Rattle.filter_text.specs.Nesting.{nested, with_front, resumed}
use Rattle.filter_text.proofs.Resuming.{told, bracket_closes}
use Rattle.filter_text.proofs.reader.close.Goals as goal

pub returns-clause-answer : goal.returns-clause-answer
returns-clause-answer c =
    let old = nested c.args.frames.now.items in
    let t = c.args.text.now in
    told _ _ (nested c.after_piece.new.frames.items) (shapes c.after_piece.new.pieces.items) c.after_piece.result
    (bracket_closes c.args.frame old t
    ∙ ap (λ f. resumed old (with_front (shapes c.args.frame.before.items) (more_pieces pieces_at (f, t)))) (sym c.in_ok-piece.ensures))
    c.after_piece.ensures.answer
