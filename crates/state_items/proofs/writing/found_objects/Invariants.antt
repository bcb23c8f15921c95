use Rattle.std.proofs.Common.{◌≡◌, ◌++◌, drop, map}
use Rattle.object_store.specs.Errors.{object_value}
use Rattle.state_items.specs.Writings.{found}
use Rattle.state_items.proofs.writing.found_objects.Given as goal

abbrev pub invariant-loop-name : goal.invariant-loop-name
invariant-loop-name l = map object_value l.objects.items ++ found l.store (drop l.name-index l.names) ≡ found l.store l.names
