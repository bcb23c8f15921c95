use Rattle.std.proofs.Common.{length}
use Rattle.git_objects.specs.Trees.{Flat}
use Rattle.object_store.specs.Unfolding.{flat}
use Rattle.incremental_export.proofs.ComparedFound.{AreNew}
use Rattle.incremental_export.proofs.compare.Changes.put_below.Given as goal

abbrev pub invariant-leaves : goal.invariant-leaves
invariant-leaves l = (done : Flat) × AreNew l.store l.front (flat l.store l.fn.tree.0) done l.walk.left l.fn.self l.self

abbrev pub decreases-leaves : goal.decreases-leaves
decreases-leaves l = length l.walk.left
