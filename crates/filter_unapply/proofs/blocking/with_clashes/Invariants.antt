use Rattle.std.proofs.Common.{◌≡◌, drop}
use Rattle.filter_unapply.specs.Blocks.{with_clashes}
use Rattle.filter_unapply.proofs.blocking.with_clashes.Given as goal

-- what is left gives what all give
abbrev pub invariant-loop-i : goal.invariant-loop-i
invariant-loop-i l = with_clashes l.store l.a (drop l.i l.others) l.least ≡ with_clashes l.store l.a l.others l.fn.least
