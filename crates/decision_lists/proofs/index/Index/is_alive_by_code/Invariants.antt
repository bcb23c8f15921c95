use Rattle.std.proofs.Common.{◌≡◌, ◌++◌, drop, take, is_some}
use Rattle.decision_lists.specs.Entries.{below}
use Rattle.decision_lists.specs.Index.{code_from, first_of}
use Rattle.decision_lists.proofs.Indexing.{some_front}
use Rattle.decision_lists.proofs.index.Index.is_alive_by_code.Given as goal

abbrev pub invariant-loop-i : goal.invariant-loop-i
invariant-loop-i l = record {
  code : l.code ≡ code_from 1 (take l.i l.base);
  fronts : some_front (λ f. is_some (first_of l.entries (below (take l.i l.base ++ f)))) (drop l.i l.base) ≡ some_front (λ f. is_some (first_of l.entries (below f))) l.base;
}
