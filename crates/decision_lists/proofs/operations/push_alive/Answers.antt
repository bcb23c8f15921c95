use Rattle.std.proofs.Common.{◌++◌, sym, ap, ◌∙◌, true, false, append-nil}
use Rattle.decision_lists.specs.Entries.{cone_of}
use Rattle.decision_lists.specs.Operations.{alive_in}
use Rattle.decision_lists.proofs.Making.{thin-alive}
use Rattle.decision_lists.proofs.operations.push_alive.Goals as goal

pub returns-in_ok-push : goal.returns-in_ok-push
returns-in_ok-push c =
    let e = c.args.entry in
    let out = c.args.out.now in
    c.in_ok-push.ensures
    ∙ ap (λ x. out ++ x)
    (thin-alive out e true
    (sym c.if-is_alive.true ∙ c.is_alive.ensures
    ∙ ap (λ b. alive_in out (cone_of c.entry.inside.point b)) c.as_slice.ensures.value
    ∙ ap (λ v. alive_in out v.0) c.entry.view_is))

pub returns-else-is_alive : goal.returns-else-is_alive
returns-else-is_alive c =
    let e = c.args.entry in
    let out = c.args.out.now in
    sym (append-nil out)
    ∙ ap (λ x. out ++ x)
    (thin-alive out e false
    (sym c.if-is_alive.false ∙ c.is_alive.ensures
    ∙ ap (λ b. alive_in out (cone_of c.entry.inside.point b)) c.as_slice.ensures.value
    ∙ ap (λ v. alive_in out v.0) c.entry.view_is))
