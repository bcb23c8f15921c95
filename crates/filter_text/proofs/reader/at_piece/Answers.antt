use Rattle.std.proofs.Common.{sym, length, arith, ◌*◌, ◌+◌}
use Rattle.filter_text.specs.Shapes.{shapes}
use Rattle.filter_text.specs.Reading.{word_at}
use Rattle.filter_text.specs.Nesting.{nested}
use Rattle.filter_text.proofs.Shorter.{less_some, word_shorter}
use Rattle.filter_text.proofs.Resuming.{told, nearer, at_none, at_word}
use Rattle.filter_text.proofs.reader.at_piece.Goals as goal

pub returns-in-None-clause-answer : goal.returns-in-None-clause-answer
returns-in-None-clause-answer c =
    at_none (nested c.args.frames.now.items) (shapes c.args.pieces.now.items) c.args.text.now (sym c.in-None.ensures)

pub returns-in-Some-clause-answer : goal.returns-in-Some-clause-answer
returns-in-Some-clause-answer c =
    told _ _ (nested c.behind_word.new.frames.items) (shapes c.behind_word.new.pieces.items) c.behind_word.result
    (at_word (nested c.args.frames.now.items) (shapes c.args.pieces.now.items) c.args.text.now c.in-Some.rest.now c.in-Some.word (sym c.in-Some.ensures))
    c.behind_word.ensures.answer

pub returns-in-Some-clause-left : goal.returns-in-Some-clause-left
returns-in-Some-clause-left c =
    let t = c.args.text.now in
    let short = less_some 2 t (word_at t) (c.in-Some.word, c.in-Some.rest.now) (word_shorter t) (sym c.in-Some.ensures) in
    nearer (2 * length c.in-Some.rest.now + 2) (2 * length t + 1) c.behind_word.result (omega arith) c.behind_word.ensures.left
