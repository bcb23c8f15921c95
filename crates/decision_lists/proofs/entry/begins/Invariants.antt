use Rattle.std.proofs.Common.{◌≡◌, drop}
use Rattle.decision_lists.specs.Fronts.{strip}
use Rattle.decision_lists.proofs.entry.begins.Given as goal

abbrev pub invariant-loop-i : goal.invariant-loop-i
invariant-loop-i l = strip l.front l.path ≡ strip (drop l.i l.front) (drop l.i l.path)
