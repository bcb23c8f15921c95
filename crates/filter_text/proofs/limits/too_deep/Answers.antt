use Rattle.std.proofs.Common.{◌∙◌, sym, drop}
use Rattle.filter_text.proofs.Rooms.{deep-passed}
use Rattle.filter_text.proofs.limits.too_deep.Goals as goal

pub returns-then-is_passed : goal.returns-then-is_passed
returns-then-is_passed c =
    sym (deep-passed c.loop-x.opened c.loop-x.closed (drop c.loop-x.x-index c.args.text.now) (sym c.is_passed.ensures ∙ c.if-is_passed.true))
    ∙ c.loop-x.invariant.same
