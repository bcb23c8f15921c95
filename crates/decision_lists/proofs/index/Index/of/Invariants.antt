use Rattle.std.proofs.Common.{nat_eq, take}
use Rattle.std.specs.HashMap.{get}
use Rattle.decision_lists.specs.Index.{IsIndex}
use Rattle.decision_lists.proofs.index.Index.of.Given as goal

abbrev pub invariant-loop-i : goal.invariant-loop-i
invariant-loop-i l = IsIndex (get nat_eq l.index.places) l.index.clean (take l.i l.entries)
