use Rattle.std.proofs.Common.{arith, ◌∙◌, ap, length, eqb-true, sym}
use Rattle.stream_lex.specs.Lines.{last_line}
use Rattle.stream_lex.proofs.Scan.{line_long, line_cut, line_last, line_over, last_some, last_none, got_line, eqb_pos, nothing_left}
use Rattle.stream_lex.proofs.lines.unended.Goals as goal

pub returns-then-at-gt-STREAM_BYTES-clause-told : goal.returns-then-at-gt-STREAM_BYTES-clause-told
returns-then-at-gt-STREAM_BYTES-clause-told c = line_cut _ _ _ c.requires.none c.if-rest-gt-LINE_BYTES.true c.if-at-gt-STREAM_BYTES.true

pub returns-then-rest-gt-LINE_BYTES-clause-told : goal.returns-then-rest-gt-LINE_BYTES-clause-told
returns-then-rest-gt-LINE_BYTES-clause-told c = line_long _ _ _ c.requires.none c.if-rest-gt-LINE_BYTES.true c.if-at-gt-STREAM_BYTES.false

pub returns-then-rest-at-clause-told : goal.returns-then-rest-at-clause-told
returns-then-rest-at-clause-told c = line_over _ _ _ c.requires.none c.if-rest-gt-LINE_BYTES.false (omega arith)

pub returns-then-not-ended-clause-told : goal.returns-then-not-ended-clause-told
returns-then-not-ended-clause-told c =
    line_last _ _ _ c.requires.none c.if-rest-gt-LINE_BYTES.false (omega arith)
    ∙ ap (λ b. last_line b (record { at = c.args.i.at; rest = c.args.i.rest.now }) c.args.i.rest.now) c.if-not-ended.true

pub returns-then-is_empty-clause-told : goal.returns-then-is_empty-clause-told
returns-then-is_empty-clause-told c =
    line_last _ _ _ c.requires.none c.if-rest-gt-LINE_BYTES.false (omega arith)
    ∙ ap (λ b. last_line b (record { at = c.args.i.at; rest = c.args.i.rest.now }) c.args.i.rest.now) c.if-not-ended.false
    ∙ last_none _ c.args.i.rest.now (eqb-true (length c.args.i.rest.now) 0 (sym c.is_empty.ensures ∙ c.if-is_empty.true))

pub returns-clause-told : goal.returns-clause-told
returns-clause-told c =
    line_last _ _ _ c.requires.none c.if-rest-gt-LINE_BYTES.false (omega arith)
    ∙ ap (λ b. last_line b (record { at = c.args.i.at; rest = c.args.i.rest.now }) c.args.i.rest.now) c.if-not-ended.false
    ∙ last_some _ c.args.i.rest.now (eqb_pos (length c.args.i.rest.now) (sym c.is_empty.ensures ∙ c.if-is_empty.false))
    ∙ ap (got_line _ _ _) (nothing_left c.args.i.rest.now)
