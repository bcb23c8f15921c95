use Rattle.std.proofs.Common.{◌∙◌, ap, sym, length, arith, ◌*◌, ◌+◌}
use Rattle.std.specs.Option.{option_and_then}
use Rattle.filter_text.specs.Shapes.{shape, shapes}
use Rattle.filter_text.specs.Reading.{piece_of, more_pieces, pieces_at, list_at}
use Rattle.filter_text.specs.Views.{filter_read}
use Rattle.filter_text.specs.Nesting.{nested, with_front, resumed}
use Rattle.filter_text.proofs.Shorter.{less_some, piece_shorter, list_at_shorter}
use Rattle.filter_text.proofs.Resuming.{told, near, leaf-is, leaf_refused, leaf_read}
use Rattle.filter_text.proofs.reader.behind_word.Goals as goal

pub returns-in-Exclude-clause-answer : goal.returns-in-Exclude-clause-answer
returns-in-Exclude-clause-answer c =
    let old = nested c.args.frames.now.items in
    let fs = shapes c.args.pieces.now.items in
    told _ _ (nested c.enter.new.frames.items) (shapes c.enter.new.pieces.items) c.enter.result
    (ap (λ w. resumed old (with_front fs (option_and_then (more_pieces pieces_at) (piece_of list_at (w, c.args.text.now))))) c.in-Exclude.is)
    c.enter.ensures.answer

pub returns-in-Join-clause-answer : goal.returns-in-Join-clause-answer
returns-in-Join-clause-answer c =
    let old = nested c.args.frames.now.items in
    let fs = shapes c.args.pieces.now.items in
    told _ _ (nested c.enter-in-Join.new.frames.items) (shapes c.enter-in-Join.new.pieces.items) c.enter-in-Join.result
    (ap (λ w. resumed old (with_front fs (option_and_then (more_pieces pieces_at) (piece_of list_at (w, c.args.text.now))))) c.in-Join.is)
    c.enter-in-Join.ensures.answer

pub returns-in-None-clause-answer : goal.returns-in-None-clause-answer
returns-in-None-clause-answer c =
    leaf_refused (nested c.args.frames.now.items) (shapes c.args.pieces.now.items) c.args.word c.args.text.now
    (leaf-is c.args.word list_at c.args.text.now c.in_default.not-Exclude c.in_default.not-Join ∙ sym c.in_ok-leaf-in_default.ensures ∙ ap filter_read c.in-None.is)

pub returns-in-Some-clause-answer : goal.returns-in-Some-clause-answer
returns-in-Some-clause-answer c =
    told _ _ (nested c.after_piece.new.frames.items) (shapes c.after_piece.new.pieces.items) c.after_piece.result
    (leaf_read (nested c.args.frames.now.items) (shapes c.args.pieces.now.items) c.args.word c.args.text.now (shape c.in-Some.piece) c.in-Some.rest.now
    (leaf-is c.args.word list_at c.args.text.now c.in_default.not-Exclude c.in_default.not-Join ∙ sym c.in_ok-leaf-in_default.ensures ∙ ap filter_read c.in-Some.is))
    c.after_piece.ensures.answer

pub returns-in-Some-clause-left : goal.returns-in-Some-clause-left
returns-in-Some-clause-left c =
    let t = c.args.text.now in
    let read = leaf-is c.args.word list_at t c.in_default.not-Exclude c.in_default.not-Join ∙ sym c.in_ok-leaf-in_default.ensures ∙ ap filter_read c.in-Some.is in
    let short = less_some 0 t (piece_of list_at (c.args.word, t)) (shape c.in-Some.piece, c.in-Some.rest.now) (piece_shorter list_at list_at_shorter (c.args.word, t)) read in
    near (2 * length c.in-Some.rest.now + 2) (2 * length t + 2) c.after_piece.result (omega arith) c.after_piece.ensures.left
