use Rattle.object_store.specs.Unfolding.{flat}
use Rattle.path_trees.proofs.Rises.{AreRisen}
use Rattle.path_trees.proofs.join.joined.Given as goal

abbrev pub invariant-directories : goal.invariant-directories
invariant-directories l =
    let S = l.fn.store in
    AreRisen S (flat S l.fn.a.0) (flat S l.fn.b.0) l.directories.items l.store l.names.items l.level

abbrev pub decreases-directories : goal.decreases-directories
decreases-directories l = l.level
