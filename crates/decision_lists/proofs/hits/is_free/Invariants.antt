use Rattle.std.proofs.Common.{◌≡◌, drop, ◌++◌}
use Rattle.decision_lists.specs.Cells.{free_in}
use Rattle.decision_lists.proofs.hits.is_free.Given as goal

abbrev pub invariant-loop-hole : goal.invariant-loop-hole
invariant-loop-hole l = free_in (drop l.hole-index l.holes) (l.base ++ l.rest) ≡ free_in l.holes (l.base ++ l.rest)
