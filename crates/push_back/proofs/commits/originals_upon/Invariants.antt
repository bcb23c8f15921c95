use Rattle.std.proofs.Common.{◌≡◌, List, drop, true}
use Rattle.git_objects.specs.Snapshots.{Snapshot}
use Rattle.git_objects.specs.declared.kind.Kind.TheVariants.{Commit, Tree}
use Rattle.object_store.specs.Objects.{has}
use Rattle.object_store.specs.Unfolding.{flat}
use Rattle.filter_text.specs.Shapes.{shape}
use Rattle.projection_ground.specs.Grounds.{IsGround}
use Rattle.fast_import.specs.Standing.{AreCommitsIn}
use Rattle.push_back.proofs.Runs.{IsUpTo}
use Rattle.push_back.proofs.commits.originals_upon.Given as goal

abbrev pub invariant-loop-pushed : goal.invariant-loop-pushed
invariant-loop-pushed l = record {
  number : l.n ≡ l.pushed-index;
  ground : IsGround l.ground;
  head : has Commit l.ground.store l.before.name.0 ≡ true;
  base : has Tree l.ground.store l.before.tree.0 ≡ true;
  seen : has Tree l.ground.store l.shown.0 ≡ true;
  run : (cs : List Snapshot) → AreCommitsIn l.fn.ground.store l.fn.commits cs
      → IsUpTo (shape l.fn.filter) l.fn.head.name.0 (flat l.fn.ground.store l.fn.head.tree.0) (flat l.fn.ground.store l.fn.seen.0) cs
      l.fn.ground l.ground l.names.items l.before l.shown l.pushed-index (drop l.pushed-index l.fn.commits);
}
