use Rattle.std.proofs.Common.{◌∙◌, ap, sym, refl, arith}
use Rattle.filter_text.specs.Shapes.{shapes}
use Rattle.filter_text.specs.Texts.{target_at}
use Rattle.filter_text.specs.Views.{target_read}
use Rattle.filter_text.specs.Nesting.{nested, answer}
use Rattle.filter_text.specs.declared.frame.At.TheVariants as places
use Rattle.filter_text.specs.declared.frame.Frame.{Frame}
use Rattle.filter_text.proofs.Shorter.{less_some, target_shorter}
use Rattle.filter_text.proofs.Resuming.{member_begins, member_refused, nested-push}
use Rattle.filter_text.proofs.reader.begin_member.Goals as goal

pub returns-in-None-clause-answer : goal.returns-in-None-clause-answer
returns-in-None-clause-answer c =
    member_refused c.args.frame (nested c.args.frames.now.items) c.args.text.now (sym c.in_ok-target_at.ensures ∙ ap target_read c.in-None.is)

pub returns-in_ok-push-in-Some-clause-answer : goal.returns-in_ok-push-in-Some-clause-answer
returns-in_ok-push-in-Some-clause-answer c =
    let old = nested c.args.frames.now.items in
    let t = c.args.text.now in
    let f = c.args.frame in
    let left = shapes c.clear.new.self.items in
    let frame : Frame = record { bracket = f.bracket; before = f.before; members = f.members; target = c.in-Some.target } in
    member_begins f frame old left c.in-Some.target t c.in-Some.rest.now
    (sym c.in_ok-target_at.ensures ∙ ap target_read c.in-Some.is) refl refl refl refl (ap shapes c.clear.ensures.items)
    ∙ (λ i. answer (sym (nested-push c.args.frames.now.items _ frame c.in_ok-push-in-Some.ensures.items) i) left places.Piece c.in-Some.rest.now)

pub returns-in_ok-push-in-Some-clause-left : goal.returns-in_ok-push-in-Some-clause-left
returns-in_ok-push-in-Some-clause-left c =
    let t = c.args.text.now in
    omega (arith, less_some 0 t (target_at t) (c.in-Some.target, c.in-Some.rest.now) (target_shorter t) (sym c.in_ok-target_at.ensures ∙ ap target_read c.in-Some.is))
