use mathlib.Core.Bool.{beq}
use Rattle.std.proofs.Common.{sym, ap, ◌∙◌, nat_eq, length, ◌++◌, length-append}
use Rattle.decision_lists.proofs.HasAt.{has-found}
use Rattle.decision_lists.proofs.hits.fits_joined.Goals as goal

pub returns-then-begins_joined : goal.returns-then-begins_joined
returns-then-begins_joined c =
    let s = c.args.front.now in
    ap (λ n. beq c.args.point (nat_eq (length s) n)) (sym (length-append c.args.base.now c.args.rest.now))
    ∙ has-found c.args.point s (c.args.base.now ++ c.args.rest.now) (sym c.begins_joined.ensures ∙ c.if-begins_joined.true)
