use Rattle.std.proofs.Common.{length, drop}
use Rattle.object_store.specs.Unfolding.{flat}
use Rattle.path_trees.proofs.Placed.{AreOpened, pending}
use Rattle.path_trees.proofs.join.shared_directories.Given as goal

abbrev pub invariant-directories : goal.invariant-directories
invariant-directories l =
    let S = l.store in
    AreOpened S (flat S l.fn.a.0) (flat S l.fn.b.0) (record { left = l.fn.a; right = l.fn.b }) l.directories.items l.firsts.items

abbrev pub decreases-directories : goal.decreases-directories
decreases-directories l = pending l.store (drop (length l.firsts.items) l.directories.items)
