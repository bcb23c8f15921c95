use Rattle.std.proofs.Common.{◌+◌, take, Some, sym, ap, ◌∙◌, arith}
use Rattle.std.proofs.lemmas.Slice.{between_to_end}
use Rattle.proj_words.proofs.Cuts.{cut_here, cut_nowhere}
use Rattle.proj_words.proofs.cut.cut.Goals as goal

pub returns-in-None-clause-cut : goal.returns-in-None-clause-cut
returns-in-None-clause-cut c =
    sym (cut_nowhere c.args.byte c.args.text.now (λ k g. c.in-None.ensures k (omega arith) g))

pub returns-in-Some-clause-cut : goal.returns-in-Some-clause-cut
returns-in-Some-clause-cut c =
    ap (λ r. Some (take c.in-Some.n c.args.text.now, r))
    (between_to_end c.args.text.now (c.in-Some.n + 1) _ (omega arith))
    ∙ sym (cut_here c.args.byte c.args.text.now c.in-Some.n c.in-Some.ensures.0.high
    (λ k g. c.in-Some.ensures.0.before k (omega arith) g) c.in-Some.ensures.1)
