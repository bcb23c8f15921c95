use Rattle.std.proofs.Common.{◌≡◌, ◌++◌, [], length}
use Rattle.std.specs.Vec.Iter.{into_iter_items, into_iter_len}
use Rattle.decision_lists.specs.Operations.{thin, heads}
use Rattle.decision_lists.proofs.operations.push_thin.Given as goal

abbrev pub invariant-loop-e : goal.invariant-loop-e
invariant-loop-e l = record {
  list : l.out ++ thin (heads l.out []) (into_iter_items l.e-iterator) ≡ l.initial.out ++ thin (heads l.initial.out []) l.fn.entries.items;
  len : into_iter_len l.e-iterator ≡ length (into_iter_items l.e-iterator);
}
