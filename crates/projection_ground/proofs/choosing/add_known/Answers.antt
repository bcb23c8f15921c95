use Rattle.std.proofs.Common.{List, Option, map, sym, ◌∙◌, ap}
use Rattle.std.specs.Option.{option_map}
use Rattle.commit_map.specs.Shown.{shown_value}
use Rattle.commit_map.specs.declared.commit_map.Shown.{Shown}
use Rattle.projection_ground.specs.Choosing.{with_known}
use Rattle.projection_ground.proofs.Gathering.{among, with-old, with-new}
use Rattle.projection_ground.proofs.choosing.add_known.Goals as goal

pub returns-then-is_member-clause-shown : goal.returns-then-is_member-clause-shown
returns-then-is_member-clause-shown c =
    let xs = c.args.onto.now.items in
    with-old c.in-Some.shown xs (sym (ap (among c.in-Some.shown) c.deref.ensures.value) ∙ sym c.is_member.ensures ∙ c.if-is_member.true)
    ∙ sym (ap (λ (o : Option Shown). with_known (map shown_value xs) (option_map shown_value o)) c.in-Some.is)

pub returns-clause-shown : goal.returns-clause-shown
returns-clause-shown c =
    let xs = c.args.onto.now.items in
    ap (λ (ys : List Shown). map shown_value ys) c.in_ok-push.ensures.items
    ∙ with-new c.in-Some.shown xs (sym (ap (among c.in-Some.shown) c.deref.ensures.value) ∙ sym c.is_member.ensures ∙ c.if-is_member.false)
    ∙ sym (ap (λ (o : Option Shown). with_known (map shown_value xs) (option_map shown_value o)) c.in-Some.is)
