use Rattle.std.proofs.Common.{◌≡◌, sym, ◌∙◌, subst, [], IfOk}
use Rattle.decision_lists.specs.Operations.{either_left}
use Rattle.decision_lists.proofs.Making.{either-live}
use Rattle.decision_lists.proofs.operations.either.Goals as goal

pub returns-clause-list : goal.returns-clause-list
returns-clause-list c =
    let others = c.args.others.items in
    let made : c.push_thin.new.out ≡ either_left c.args.entries others =
    c.in_ok-push_thin.ensures ∙ sym (either-live c.args.entries others [] (sym c.is_live.ensures ∙ c.if-not-is_live.false)) in
    subst (λ es. IfOk c.bounded.result (λ v. v ≡ es)) made c.bounded.ensures.list
