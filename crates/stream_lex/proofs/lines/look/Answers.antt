use Rattle.std.proofs.Common.{◌∙◌, ap, sym, subst, arith}
use Rattle.stream_lex.specs.Views.{input, line}
use Rattle.stream_lex.specs.Lines.{any_line}
use Rattle.stream_lex.specs.Cutting.{Steps}
use Rattle.stream_lex.proofs.Fuel.{line_err, line_none, line_some, line_skip, moves_none, moves_some}
use Rattle.stream_lex.proofs.Advance.{any_line-steps, line_at-steps}
use Rattle.stream_lex.proofs.Combining.{further}
use Rattle.stream_lex.proofs.Passing.{past_then, past_one}
use Rattle.stream_lex.proofs.lines.look.Goals as goal

pub returns-in-Err-clause-told : goal.returns-in-Err-clause-told
returns-in-Err-clause-told c =
    sym c.lines.invariant.same ∙ line_err _ (input c.lines.i) (input c.lines.i) _ c.in-Err.ensures.told

pub returns-in-Ok-None-default-clause-told : goal.returns-in-Ok-None-default-clause-told
returns-in-Ok-None-default-clause-told c =
    sym c.lines.invariant.same
    ∙ line_none _ (input c.lines.i) (input c.in-Ok-None-default.after) (rw c.in-Ok-None-default.field-0-0-is at c.in-Ok-None-default.ensures.told)

pub returns-in-Ok-None-default-clause-within : goal.returns-in-Ok-None-default-clause-within
returns-in-Ok-None-default-clause-within c =
    moves_none _ (input c.lines.i) (input c.in-Ok-None-default.after) (rw c.in-Ok-None-default.field-0-0-is at c.in-Ok-None-default.ensures.told)

pub returns-then-not-is_comment-clause-told : goal.returns-then-not-is_comment-clause-told
returns-then-not-is_comment-clause-told c =
    sym c.lines.invariant.same
    ∙ line_some _ (input c.lines.i) (input c.in-Ok-Some-default.after) (line c.in-Ok-Some-default.line) (rw c.in-Ok-Some-default.field-0-0-is at c.in-Ok-Some-default.ensures.told) (sym c.is_comment.ensures ∙ c.if-not-is_comment.true)

pub returns-then-not-is_comment-clause-within : goal.returns-then-not-is_comment-clause-within
returns-then-not-is_comment-clause-within c =
    (moves_some _ (input c.lines.i) (input c.in-Ok-Some-default.after) (line c.in-Ok-Some-default.line) (rw c.in-Ok-Some-default.field-0-0-is at c.in-Ok-Some-default.ensures.told)).1

pub lines-smaller : goal.lines-smaller
lines-smaller c =
    (moves_some _ (input c.lines.i) (input c.in-Ok-Some-default.after) (line c.in-Ok-Some-default.line) (rw c.in-Ok-Some-default.field-0-0-is at c.in-Ok-Some-default.ensures.told)).0

pub lines-preserved : goal.lines-preserved
lines-preserved c =
    let after = input c.in-Ok-Some-default.after in
    let told = rw c.in-Ok-Some-default.field-0-0-is at c.in-Ok-Some-default.ensures.told in
    let comment = sym c.is_comment.ensures ∙ c.if-not-is_comment.false in
    record {
      within = (moves_some _ (input c.lines.i) after (line c.in-Ok-Some-default.line) told).1;
      room = omega arith;
      clear = λ k a b. absurd (omega arith);
      same = sym (line_skip _ (input c.lines.i) after (line c.in-Ok-Some-default.line) told comment) ∙ c.lines.invariant.same;
      steps = further _ (input c.lines.i) after c.lines.invariant.steps (subst (Steps (input c.lines.i)) told (any_line-steps c.args.ended (input c.lines.i)));
      past = λ unended. past_then _ (input c.lines.i) after (c.lines.invariant.past unended)
          (past_one (input c.lines.i) after (line c.in-Ok-Some-default.line) (ap (λ e. any_line e (input c.lines.i)) (sym unended) ∙ told) comment);
    }

pub returns-in-Ok-None-default-clause-steps : goal.returns-in-Ok-None-default-clause-steps
returns-in-Ok-None-default-clause-steps c =
    subst (Steps (input c.args.i)) (returns-in-Ok-None-default-clause-told c) (line_at-steps c.args.ended (input c.args.i))

pub returns-then-not-is_comment-clause-steps : goal.returns-then-not-is_comment-clause-steps
returns-then-not-is_comment-clause-steps c =
    subst (Steps (input c.args.i)) (returns-then-not-is_comment-clause-told c) (line_at-steps c.args.ended (input c.args.i))
