use Rattle.std.proofs.Common.{◌≡◌, drop, ◌++◌}
use Rattle.decision_lists.specs.Backward.{deads}
use Rattle.decision_lists.specs.Entries.{base, cone_of}
use Rattle.decision_lists.specs.Operations.{pulled}
use Rattle.decision_lists.proofs.backward.back_from.Given as goal

-- the parts of the holes so far, and those of the holes to come
abbrev pub invariant-loop-hole : goal.invariant-loop-hole
invariant-loop-hole l =
    l.list.items ++ pulled (cone_of l.point l.target) l.base (deads (drop l.hole-index l.holes))
    ≡ pulled (cone_of l.point l.target) l.base (deads l.holes)
