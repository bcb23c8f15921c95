-- What holds of the tree that a stage shows.
use Rattle.std.specs.Prelude.{◌≡◌, List, ◌++◌}
use Rattle.git_objects.specs.Trees.{Flat}
use Rattle.object_store.specs.Objects.{Object, IsStore}
use Rattle.stage_tree.specs.Stages.{Staged, Shows}

-- it is the only one
abbrev pub OneTreeLaw : Type 0
OneTreeLaw = (S : List Object) (v : Staged) (t u : Flat) → Shows S v t → Shows S v u → t ≡ u

-- it stays when the store grows
abbrev pub GrownStoreLaw : Type 0
GrownStoreLaw = (newer S : List Object) (v : Staged) (t : Flat) → IsStore (newer ++ S) → Shows S v t → Shows (newer ++ S) v t
