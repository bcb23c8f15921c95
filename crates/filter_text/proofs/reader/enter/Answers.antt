use Rattle.std.proofs.Common.{◌∙◌, ap, sym, refl, None}
use Rattle.filter_text.specs.Shapes.{shapes}
use Rattle.filter_text.specs.Nesting.{nested, answer}
use Rattle.filter_text.specs.declared.frame.At.TheVariants as places
use Rattle.filter_text.specs.declared.frame.Frame.{Frame}
use Rattle.filter_text.proofs.Resuming.{bracket_opens, nested-push}
use Rattle.filter_text.proofs.reader.enter.Goals as goal

pub returns-clause-answer : goal.returns-clause-answer
returns-clause-answer c =
    let old = nested c.args.frames.now.items in
    let t = c.args.text.now in
    let left = shapes c.replace-before.new.dest.items in
    let frame : Frame = record { bracket = c.args.bracket; before = c.replace-before.result; members = c.new-members.result; target = None } in
    bracket_opens frame old c.args.bracket (shapes c.args.pieces.now.items) left t refl
    (ap (λ v. shapes v.items) c.replace-before.ensures.value) (ap shapes c.new-members.ensures.items)
    ∙ (λ i. answer (sym (nested-push c.args.frames.now.items _ frame c.in_ok-push.ensures.items) i) left places.Inside t)
