use Rattle.std.proofs.Common.{◌≡◌, drop}
use Rattle.decision_lists.specs.Index.{code_from}
use Rattle.decision_lists.proofs.index.path_code.Given as goal

abbrev pub invariant-loop-c : goal.invariant-loop-c
invariant-loop-c l = code_from l.code (drop l.c-index l.path) ≡ code_from 1 l.path
