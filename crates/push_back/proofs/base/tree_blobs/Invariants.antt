use Rattle.std.proofs.Common.{length}
use Rattle.git_objects.specs.Trees.{Flat}
use Rattle.object_store.specs.Unfolding.{flat}
use Rattle.push_back.proofs.Grounding.{AreCollected}
use Rattle.push_back.proofs.base.tree_blobs.Given as goal

abbrev pub invariant-leaves : goal.invariant-leaves
invariant-leaves l = (done : Flat) × AreCollected l.fn.store (flat l.fn.store l.fn.tree.0) done l.walk.left l.blobs

abbrev pub decreases-leaves : goal.decreases-leaves
decreases-leaves l = length l.walk.left
