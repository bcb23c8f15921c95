use Rattle.std.proofs.Common.{arith, ◌∙◌, ◌+◌, ap, sym}
use Rattle.std.proofs.lemmas.Slice.{between_to_end}
use Rattle.stream_lex.proofs.Scan.{line_whole, line_beyond, got_line}
use Rattle.stream_lex.proofs.lines.next_line.Goals as goal

pub returns-then-n-at-clause-told : goal.returns-then-n-at-clause-told
returns-then-n-at-clause-told c = line_beyond _ _ _ _ c.in-Some.ensures.found c.in-Some.ensures.within (omega arith)

pub returns-clause-told : goal.returns-clause-told
returns-clause-told c =
    line_whole c.args.ended c.args.i.at c.args.i.rest.now c.in-Some.n c.in-Some.ensures.found c.in-Some.ensures.within (omega arith)
    ∙ ap (got_line _ _ _) (sym (between_to_end c.args.i.rest.now (c.in-Some.n + 1) _ (omega arith)))
