-- Stored trees by their leaves.
use Rattle.std.specs.Prelude.{◌≡◌, true, List, Option}
use Rattle.git_objects.specs.Paths.{Bytes, Path}
use Rattle.git_objects.specs.Trees.{Leaf, at}
use Rattle.git_objects.specs.declared.kind.Kind.TheVariants.{Tree}
use Rattle.object_store.specs.Objects.{Object, has}
use Rattle.object_store.specs.Unfolding.{flat}

-- a tree of the store with these leaves
pub record HasLeaves (S : List Object) (n : Bytes) (o : Path → Option Leaf) : Type 0 where
  pub held : has Tree S n ≡ true
  pub leaves : (p : Path) → at (flat S n) p ≡ o p
