use Rattle.object_store.specs.Unfolding.{flat}
use Rattle.path_trees.proofs.Directories.{IsSoFar}
use Rattle.path_trees.proofs.edits.directories.Given as goal

abbrev pub invariant-loop-component : goal.invariant-loop-component
invariant-loop-component l = IsSoFar l.store (flat l.store l.fn.root.0) l.path l.directories.items l.component-index l.directory
