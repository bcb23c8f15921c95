use Rattle.std.proofs.Common.{◌≡◌, ◌∙◌, ap, sym, subst, Some, length, arith, false}
use Rattle.std.specs.Option.{option_map}
use Rattle.filter_text.specs.Texts.{gap}
use Rattle.filter_text.specs.Items.{member_at, with_item, TellsMember}
use Rattle.filter_text.specs.Views.{member_value, member_read, item_value}
use Rattle.filter_text.proofs.Shorter.{less_some, gap_shorter}
use Rattle.filter_text.proofs.Files.{member_shorter, next_fit}
use Rattle.filter_text.proofs.Leaving.{next-long}
use Rattle.filter_text.proofs.items.next_item.Goals as goal

pub returns-in-Some-2-clause-item : goal.returns-in-Some-2-clause-item
returns-in-Some-2-clause-item c =
    let t = c.args.text.now in
    let r = c.in-Some.rest.now in
    let m = member_value c.in-Some.member in
    let i = item_value c.in-Some-2.item in
    let left = c.in-Some-2.left in
    next_fit c.args.room t c.requires m r (subst (λ x. TellsMember (member_at t) (member_read x)) c.in-Some.is c.in_ok-member_at.ensures)
    (sym c.ends_member.ensures ∙ c.if-not-ends_member.false) i left
    (sym c.in_ok-roomy_item-in-Some.ensures ∙ ap (option_map (λ x. (item_value x.0, x.1))) c.in-Some-2.is)
    ∙ ap (λ g. with_item (Some (i, left, g))) (sym (ap (λ x. x.1) c.gap.ensures))

pub returns-in-Some-2-clause-shorter : goal.returns-in-Some-2-clause-shorter
returns-in-Some-2-clause-shorter c =
    let t = c.args.text.now in
    let r = c.in-Some.rest.now in
    let read : member_at t ≡ Some (member_value c.in-Some.member, r) = subst (λ x. TellsMember (member_at t) (member_read x)) c.in-Some.is c.in_ok-member_at.ensures in
    let short = less_some 2 t (member_at t) (member_value c.in-Some.member, r) (member_shorter t) read in
    let rest : length c.gap.result.1.now ≡ length (gap r).1 = ap (λ x. length x.1) c.gap.ensures in
    omega (arith, gap_shorter false false r)

pub returns-in-None-clause-item : goal.returns-in-None-clause-item
returns-in-None-clause-item c =
    let t = c.args.text.now in
    next-long c.args.room t c.requires (subst (λ x. TellsMember (member_at t) (member_read x)) c.in-None.is c.in_ok-member_at.ensures)
