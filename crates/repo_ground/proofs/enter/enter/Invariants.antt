use Rattle.std.proofs.Common.{◌≡◌, List, map}
use Rattle.std.specs.Iterator.Adapters.{zip_first, zip_second}
use Rattle.std.specs.Slice.Iter.{iter_rest}
use Rattle.git_objects.specs.declared.name.Name.{Name}
use Rattle.object_store.specs.Errors.{object_value}
use Rattle.object_store.specs.Objects.{Object}
use Rattle.state_items.specs.Arrivals.{AreHeld}
use Rattle.state_items.specs.Writings.{found}
use Rattle.repo_ground.specs.Entering.{AreNewIn, IsFront}
use Rattle.repo_ground.proofs.Entered.{IsEntering}
use Rattle.repo_ground.proofs.enter.enter.Given as goal

abbrev pub invariant-loop-name : goal.invariant-loop-name
invariant-loop-name l = record {
  entered : (S H : List Object) (held : List Name) → AreHeld H held l.fn.graph l.fn.blobs.keys → AreNewIn S H l.names → map object_value l.objects ≡ found S l.names
      → IsEntering S H held l.names (iter_rest (zip_first l.name-iterator)) (iter_rest (zip_second l.name-iterator)) l.graph l.blobs.keys;
  front : IsFront l.fn.graph l.graph × IsFront l.fn.blobs.keys l.blobs.keys;
}
