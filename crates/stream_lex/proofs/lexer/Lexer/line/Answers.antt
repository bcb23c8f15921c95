use Rattle.std.proofs.Common.{◌∙◌, ◌+◌, ◌-◌, Ok, Err, Some, None, ap, sym, subst, arith}
use Rattle.git_objects.specs.Paths.{Bytes}
use Rattle.stream_lex.specs.Views.{input, line, maybe_line}
use Rattle.stream_lex.specs.Lines.{line_at}
use Rattle.stream_lex.specs.Lexing.{Lexed, Refuses}
use Rattle.stream_lex.proofs.Passing.{refused, at_offset, told_here, told_left, left_within}
use Rattle.stream_lex.proofs.lexer.Lexer.line.Goals as goal

pub returns-in-Err-More : goal.returns-in-Err-More
returns-in-Err-More c = (
  (
    c.in-Err-More.field-0-0,
    told_here c.self.inside.base c.self.inside.bytes.items c.deref.result.now c.self.inside.used c.self.inside.from c.self.inside.ended
        c.deref.ensures.value c.self.invariant.past c.args.self.now c.self.view_is _ (rw c.in-Err-More.is at c.look.ensures.told ∙ ap Err (rw c.in-Err-More.is at c.in-Err-More.field-0-is)),
  ),
  c.self.view_is,
)

pub returns-in-Err-Fault : goal.returns-in-Err-Fault
returns-in-Err-Fault c =
    subst (λ e. Refuses e c.args.self.now c.args.self.now (line_at c.args.self.now.ended c.args.self.now.input)) (sym c.from.ensures)
    (refused c.in-Err-Fault.fault c.args.self.now (told_here c.self.inside.base c.self.inside.bytes.items c.deref.result.now c.self.inside.used c.self.inside.from c.self.inside.ended
    c.deref.ensures.value c.self.invariant.past c.args.self.now c.self.view_is _ (rw c.in-Err-Fault.is at c.look.ensures.told ∙ ap Err (rw c.in-Err-Fault.is at c.in-Err-Fault.field-0-is))))

pub returns-in-Ok-None-default : goal.returns-in-Ok-None-default
returns-in-Ok-None-default c =
    let f = c.in-Ok-None-default in
    let none = rw f.is at f.field-0-0-is in
    let told = rw f.is at c.look.ensures.told ∙ ap (λ o. Ok (maybe_line o, input f.after)) none in
    let steps = rw f.is at c.look.ensures.steps in (
      told_left c.self.inside.base c.self.inside.bytes.items c.deref.result.now c.self.inside.used c.self.inside.from c.self.inside.ended
          c.deref.ensures.value c.self.invariant.past c.args.self.now c.self.view_is c.self.invariant.order None (input f.after) steps told,
      (left_within c.self.inside.base c.self.inside.bytes.items c.deref.result.now c.self.inside.used c.self.inside.from c.self.inside.ended
          c.deref.ensures.value c.self.invariant.past c.args.self.now c.self.view_is c.self.invariant.order None (input f.after) steps (omega (arith, c.self.invariant.room))).1,
      ap (λ (l : Lexed). l.ended) c.self.view_is,
    )

pub returns-in-Ok : goal.returns-in-Ok
returns-in-Ok c =
    let f = c.in-Ok-Some-default in
    let some = rw f.is at f.field-0-0-is in
    let told = rw f.is at c.look.ensures.told ∙ ap (λ o. Ok (maybe_line o, input f.after)) some in
    let steps = rw f.is at c.look.ensures.steps in
    let bytes = sym c.in-Ok.ensures.items ∙ sym c.of.ensures in (
      told_left c.self.inside.base c.self.inside.bytes.items c.deref.result.now c.self.inside.used c.self.inside.from c.self.inside.ended
          c.deref.ensures.value c.self.invariant.past c.args.self.now c.self.view_is c.self.invariant.order (Some (line f.line)) (input f.after) steps told
          ∙ ap (λ (b : Bytes). Ok (
            Some (record { place = f.line.at; bytes = b }),
            at_offset c.self.inside.base c.self.inside.bytes.items (c.self.inside.used + (f.after.at - (c.self.inside.base + c.self.inside.used))),
          )) bytes,
      ap (λ (l : Lexed). l.ended) c.self.view_is,
    )
