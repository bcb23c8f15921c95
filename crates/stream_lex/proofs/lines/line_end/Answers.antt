use Rattle.std.proofs.Common.{arith}
use Rattle.stream_lex.proofs.Scan.{found_behind, none_behind, fewer, at_most, min_cases}
use Rattle.stream_lex.proofs.lines.line_end.Goals as goal

pub returns-in-Some-clause-found : goal.returns-in-Some-clause-found
returns-in-Some-clause-found c =
    found_behind c.args.rest.now c.min-from.result c.min-end.result (omega arith) (omega arith)
    (fewer c.args.rest.now c.args.clear c.min-from.result (omega arith) c.requires.clear)
    c.in-Some.n c.in-Some.ensures.0.high c.in-Some.ensures.0.before c.in-Some.ensures.1

pub returns-in-None-clause-none : goal.returns-in-None-clause-none
returns-in-None-clause-none c =
    at_most c.args.rest.now c.min-end.result (min_cases c.args.rest.now c.min-end.result c.min-end.ensures)
    (none_behind c.args.rest.now c.min-from.result c.min-end.result (omega arith) (omega arith)
    (fewer c.args.rest.now c.args.clear c.min-from.result (omega arith) c.requires.clear)
    c.in-None.ensures)
