use Rattle.std.proofs.Common.{ap, arith}
use Rattle.filter_text.specs.Shapes.{shapes}
use Rattle.filter_text.specs.Nesting.{nested, answer}
use Rattle.filter_text.specs.declared.frame.At.TheVariants as places
use Rattle.filter_text.proofs.Resuming.{told, nested-push, nested-empty}
use Rattle.filter_text.proofs.reader.at_list.Goals as goal

pub returns-in-None-clause-answer : goal.returns-in-None-clause-answer
returns-in-None-clause-answer c =
    let old = c.args.frames.now in
    let ok = old.ok in
    let none = c.in-None.ensures.cases in
    ap (λ fs. answer fs (shapes c.args.pieces.now.items) places.Inside c.args.text.now) (nested-empty old.items (omega (arith, ok.0, none.0)))

pub returns-in-Some-clause-answer : goal.returns-in-Some-clause-answer
returns-in-Some-clause-answer c =
    told _ _ (nested c.in_list.new.frames.items) (shapes c.in_list.new.pieces.items) c.in_list.result
    (ap (λ fs. answer fs (shapes c.args.pieces.now.items) places.Inside c.args.text.now)
    (nested-push _ c.args.frames.now.items c.in-Some.frame c.in-Some.ensures.items))
    c.in_list.ensures.answer
