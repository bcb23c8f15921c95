use Rattle.std.proofs.Common.{sym, ap, ◌∙◌}
use Rattle.decision_lists.specs.Entries.{cone_of}
use Rattle.decision_lists.specs.Operations.{alive_in}
use Rattle.decision_lists.proofs.Making.{block-goes-on, block-leaves}
use Rattle.decision_lists.proofs.operations.push_part.Goals as goal

pub returns-in_ok-push-2 : goal.returns-in_ok-push-2
returns-in_ok-push-2 c es =
    let e = c.args.found in
    let out = c.args.out.now in
    block-goes-on out c.push-then-is_alive.new.self es (cone_of c.args.point c.args.base.now) e
    (sym c.covers.ensures ∙ c.if-covers.false)
    (sym (ap (λ b. alive_in out (cone_of c.found.inside.point b)) c.as_slice.ensures.value
    ∙ ap (λ v. alive_in out v.0) c.found.view_is) ∙ sym c.is_alive.ensures ∙ c.if-is_alive.true)
    c.in_ok-push-2.ensures

pub returns-else-is_alive : goal.returns-else-is_alive
returns-else-is_alive c es =
    let e = c.args.found in
    let out = c.args.out.now in
    block-leaves out es (cone_of c.args.point c.args.base.now) e
    (sym c.covers.ensures ∙ c.if-covers.false)
    (sym (ap (λ b. alive_in out (cone_of c.found.inside.point b)) c.as_slice.ensures.value
    ∙ ap (λ v. alive_in out v.0) c.found.view_is) ∙ sym c.is_alive.ensures ∙ c.if-is_alive.false)
