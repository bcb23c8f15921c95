use Rattle.std.proofs.Common.{List, drop, map}
use Rattle.git_objects.specs.Paths.{Bytes}
use Rattle.object_store.specs.Objects.{Object}
use Rattle.fast_import.specs.Standing.{AreBlobsIn}
use Rattle.state_items.specs.Changes.{blob_object}
use Rattle.repo_ground.specs.Growing.{Extends, IsReady, IsStep}
use Rattle.repo_ground.proofs.holding.hold_blobs.Given as goal

abbrev pub invariant-loop-name : goal.invariant-loop-name
invariant-loop-name l = record {
  step : (S : List Object) (bs : List Bytes) → AreBlobsIn S l.names bs → IsReady S l.fn.held.keys (map blob_object bs)
      → IsStep S l.fn.held.keys l.held.keys (map blob_object bs) (map blob_object (drop l.name-index bs));
  extends : Extends l.fn.held.keys l.held.keys;
}
