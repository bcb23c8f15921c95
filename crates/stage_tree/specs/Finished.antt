-- What finishing a stage adds to a store.
use Rattle.std.specs.Prelude.{List, IfOk, IfErr, Result}
use Rattle.git_objects.specs.Trees.{Flat}
use Rattle.git_objects.specs.declared.name.Name.{Name}
use Rattle.object_store.specs.Objects.{Object}
use Rattle.object_store.specs.Unfolding.{StandsFor}
use Rattle.path_trees.specs.Made.{IsGrown, IsTreeFault}
use Rattle.path_trees.specs.declared.found.TreeFault.{TreeFault}
use Rattle.stage_nodes.specs.Closing.{HasDirectory}
use Rattle.stage_tree.specs.Stages.{Staged, Shows}

-- The store has the tree that was shown, and it has only grown by directories of it. Or there was no memory, or
-- another object has the name of such a directory. The stage shows the tree as before, over the store as it is now.
pub record IsFinished (S S' : List Object) (after : Staged) (t : Flat) (result : Result Name TreeFault) : Type 0 where
  pub named : IfOk result (λ n. StandsFor S' n.0 t)
  pub refused : IfErr result (IsTreeFault (HasDirectory t) S')
  pub grown : IsGrown (HasDirectory t) S S'
  pub shows : Shows S' after t
