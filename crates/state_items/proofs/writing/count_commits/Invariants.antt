use Rattle.std.proofs.Common.{◌≡◌, ◌≤◌, ◌+◌, drop, length, filter, map}
use Rattle.object_store.specs.Errors.{object_value}
use Rattle.object_store.specs.Fits.{is_commit}
use Rattle.state_items.proofs.writing.count_commits.Given as goal

abbrev pub invariant-loop-object : goal.invariant-loop-object
invariant-loop-object l = record {
  bound : l.count ≤ l.object-index;
  rest : l.count + length (filter is_commit (map object_value (drop l.object-index l.objects))) ≡ length (filter is_commit (map object_value l.objects));
}
