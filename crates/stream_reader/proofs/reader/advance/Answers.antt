use Rattle.std.proofs.Common.{◌≡◌, ◌+◌, ◌-◌, ◌≤◌, Bool, Ok, length, drop, sym, ap, ◌∙◌}
use Rattle.stream_lex.specs.Lines.{Input}
use Rattle.stream_lex.specs.Lexing.{Lexed}
use Rattle.stream_lex.specs.Views.{input}
use Rattle.stream_reader.specs.declared.progress.Progress.{Progress}
use Rattle.stream_reader.specs.Commands.{Turn, turn}
use Rattle.stream_reader.proofs.Reading.{turned, next_input, next_room}
use Rattle.stream_reader.proofs.reader.advance.Goals as goal

-- what is told at the cursor is told of the lexer
module _ (p : Progress) (l : Lexed) (e : Bool) (i j : Input) (t : Turn) (q : e ≡ l.ended) (s : i ≡ l.input) (h : turn p e i ≡ Ok (t, j)) where
  told : turn p l.ended l.input ≡ Ok (t, j)
  told = (λ k. turn p (sym q k) (sym s k)) ∙ h

  room : (l.input.at ≤ j.at) × (j.at ≤ l.input.at + length l.input.rest)
  room = next_room l.input j (turned p l.ended l.input t j told)

  passed : (m : Lexed) → m ≡ record { input = record { at = j.at; rest = drop (j.at - l.input.at) l.input.rest }; ended = l.ended } →
      (turn p l.ended l.input ≡ Ok (t, m.input)) × (m.ended ≡ l.ended)
  passed m r = (
    told ∙ ap (λ k. Ok (t, k)) (next_input l.input j (turned p l.ended l.input t j told) ∙ sym (ap (λ (x : Lexed). x.input) r)),
    ap (λ (x : Lexed). x.ended) r,
  )

pub pass-requires-clause-from : goal.pass-requires-clause-from
pass-requires-clause-from c =
    (room c.args.progress.now c.args.lexer.now c.has_ended-ended.result (input c.cursor-i.result) (input c.in-Ok.after) (record { event = c.in-Ok.event; progress = c.in-Ok.behind })
    c.has_ended-ended.ensures c.cursor-i.ensures.value c.in-Ok.ensures.told).0

pub pass-requires-clause-room : goal.pass-requires-clause-room
pass-requires-clause-room c =
    (room c.args.progress.now c.args.lexer.now c.has_ended-ended.result (input c.cursor-i.result) (input c.in-Ok.after) (record { event = c.in-Ok.event; progress = c.in-Ok.behind })
    c.has_ended-ended.ensures c.cursor-i.ensures.value c.in-Ok.ensures.told).1

pub returns-in-Ok : goal.returns-in-Ok
returns-in-Ok c =
    passed c.args.progress.now c.args.lexer.now c.has_ended-ended.result (input c.cursor-i.result) (input c.in-Ok.after) (record { event = c.in-Ok.event; progress = c.in-Ok.behind })
    c.has_ended-ended.ensures c.cursor-i.ensures.value c.in-Ok.ensures.told c.pass.new.self c.pass.ensures
