use Rattle.std.proofs.Common.{ap, Some, arith}
use Rattle.filter_text.specs.Shapes.{shapes}
use Rattle.filter_text.specs.Nesting.{nested, resumed}
use Rattle.filter_text.proofs.Resuming.{told, nested-push, nested-empty}
use Rattle.filter_text.proofs.reader.after_chain.Goals as goal

pub returns-in-None-clause-answer : goal.returns-in-None-clause-answer
returns-in-None-clause-answer c =
    let old = c.args.frames.now in
    let ok = old.ok in
    let none = c.in-None.ensures.cases in
    ap (λ fs. resumed fs (Some (shapes c.args.pieces.now.items, c.args.text.now))) (nested-empty old.items (omega (arith, ok.0, none.0)))

pub returns-in-Some-clause-answer : goal.returns-in-Some-clause-answer
returns-in-Some-clause-answer c =
    told _ _ (nested c.after_member.new.frames.items) (shapes c.after_member.new.pieces.items) c.after_member.result
    (ap (λ fs. resumed fs (Some (shapes c.args.pieces.now.items, c.args.text.now)))
    (nested-push _ c.args.frames.now.items c.in-Some.frame c.in-Some.ensures.items))
    c.after_member.ensures.answer
