-- What holds of the trees in a store.
use Rattle.std.specs.Prelude.{◌≡◌, true, List, ◌++◌}
use Rattle.git_objects.specs.Paths.{Bytes}
use Rattle.git_objects.specs.Trees.{IsTree}
use Rattle.git_objects.specs.Names.{tree_name}
use Rattle.git_objects.specs.declared.kind.Kind.TheVariants.{Tree}
use Rattle.object_store.specs.Objects.{Object, IsStore, has}
use Rattle.object_store.specs.Unfolding.{flat}

-- the flat map of a stored tree is a tree, and its tree name is the stored name; so equal names are equal maps
pub record IsUnfolded (S : List Object) (n : Bytes) : Type 0 where
  pub tree : IsTree (flat S n)
  pub named : tree_name (flat S n) ≡ n

abbrev pub UnfoldingLaw : Type 0
UnfoldingLaw = (S : List Object) (n : Bytes) → IsStore S → has Tree S n ≡ true → IsUnfolded S n

-- it stays when the store grows
abbrev pub GrowingLaw : Type 0
GrowingLaw = (newer S : List Object) (n : Bytes) → IsStore (newer ++ S) → has Tree S n ≡ true → flat (newer ++ S) n ≡ flat S n
