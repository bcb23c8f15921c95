use Rattle.std.proofs.Common.{◌≡◌, take, ◌++◌}
use Rattle.decision_lists.proofs.entry.joined.Given as goal

abbrev pub invariant-loop-c : goal.invariant-loop-c
invariant-loop-c l = l.all.items ≡ take l.c-index l.front

abbrev pub invariant-loop-c-2 : goal.invariant-loop-c-2
invariant-loop-c-2 l = l.all.items ≡ l.front ++ take l.c-index l.rest
