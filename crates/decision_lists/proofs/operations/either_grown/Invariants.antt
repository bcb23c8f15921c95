use Rattle.std.proofs.Common.{◌≡◌, ◌≤◌, ◌++◌, [], length}
use Rattle.std.specs.Vec.Iter.{into_iter_items, into_iter_len}
use Rattle.decision_lists.specs.Operations.{refine, either_how, either_left, heads}
use Rattle.decision_lists.proofs.operations.either_grown.Given as goal

abbrev pub invariant-loop-e : goal.invariant-loop-e
invariant-loop-e l = record {
  list : l.out ++ refine (either_how l.others.items) l.others.items (heads l.out []) (into_iter_items l.e-iterator) ≡ either_left l.fn.entries.items l.others.items;
  few : length l.out ≤ l.most;
  len : into_iter_len l.e-iterator ≡ length (into_iter_items l.e-iterator);
}
