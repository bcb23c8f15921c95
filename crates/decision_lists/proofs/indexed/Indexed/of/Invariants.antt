use Rattle.std.proofs.Common.{◌≡◌, ◌++◌, length}
use Rattle.std.specs.Vec.Iter.{into_iter_items, into_iter_len}
use Rattle.decision_lists.proofs.indexed.Indexed.of.Given as goal

abbrev pub invariant-loop-e : goal.invariant-loop-e
invariant-loop-e l = record {
  list : l.list ++ into_iter_items l.e-iterator ≡ l.fn.entries.items;
  len : into_iter_len l.e-iterator ≡ length (into_iter_items l.e-iterator);
}
