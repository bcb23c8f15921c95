use Rattle.std.proofs.Common.{◌≡◌, drop, None}
use Rattle.decision_lists.specs.Entries.{run}
use Rattle.decision_lists.proofs.hits.locate.Given as goal

abbrev pub invariant-loop-i : goal.invariant-loop-i
invariant-loop-i l = run None (drop l.i l.entries) l.path ≡ run None l.entries l.path
