use Rattle.std.proofs.Common.{◌∙◌, ap, sym, Some, ◌∷◌}
use Rattle.filter_text.specs.Shapes.{shapes}
use Rattle.filter_text.specs.Nesting.{nested, resumed, answer}
use Rattle.filter_text.specs.declared.frame.At.TheVariants as places
use Rattle.filter_text.proofs.Resuming.{chain_refused, chain_goes_on, nested-push}
use Rattle.filter_text.proofs.reader.after_member.Goals as goal

pub returns-then-not-goes_on-clause-answer : goal.returns-then-not-goes_on-clause-answer
returns-then-not-goes_on-clause-answer c =
    chain_refused c.args.frame (nested c.args.frames.now.items) (shapes c.args.pieces.now.items) c.args.text.now
    (sym c.goes_on.ensures ∙ c.if-not-goes_on.true)

pub returns-clause-answer : goal.returns-clause-answer
returns-clause-answer c =
    let old = nested c.args.frames.now.items in
    let t = c.args.text.now in
    let frame = c.in_ok-with_member.field-0 in
    let left = shapes c.replace-chain.new.dest.items in
    ap (λ v. resumed (c.args.frame ∷ old) (Some (shapes v.items, t))) (sym c.replace-chain.ensures.value)
    ∙ chain_goes_on c.args.frame frame old (shapes c.replace-chain.result.items) left t
    (sym c.goes_on.ensures ∙ c.if-not-goes_on.false) c.in_ok-with_member.ensures
    ∙ (λ i. answer (sym (nested-push c.args.frames.now.items _ frame c.in_ok-push.ensures.items) i) left places.Inside t)
