-- What an edit adds to a store, and its faults.
use Rattle.std.specs.Prelude.{◌≡◌, List, [], ◌∷◌, ◌++◌, Some}
use Rattle.git_objects.specs.Paths.{Bytes, Path}
use Rattle.git_objects.specs.Trees.{Flat, under}
use Rattle.git_objects.specs.Names.{name, body}
use Rattle.git_objects.specs.declared.kind.Kind.TheVariants.{Tree}
use Rattle.object_store.specs.Objects.{Object, IsStore, find_named}
use Rattle.object_store.specs.Puts.{Collides, collision}
use Rattle.path_trees.specs.declared.found.TreeFault.{TreeFault}
use Rattle.path_trees.specs.declared.found.TreeFault.TheVariants.{Collision, OutOfMemory}

-- the body of a directory on the way to a path: of all that lies below a path that goes on to it
pub record IsOnWay (t : Flat) (p : Path) (b : Bytes) : Type 0 where
  pub above : Path
  pub component : Bytes
  pub rest : Path
  pub path : above ++ component ∷ rest ≡ p
  pub body : body (under t above) ≡ b

-- each of these objects is a tree of such a body
abbrev pub AreMade : (Bytes → Type 0) → List Object → Type 0
AreMade made [] = Unit
AreMade made (o ∷ older) = (o.kind ≡ Tree) × made o.body × AreMade made older

-- the old objects, and new trees in front of them
pub record IsGrown (made : Bytes → Type 0) (S S' : List Object) : Type 0 where
  pub store : IsStore S'
  pub newer : List Object
  pub above : newer ++ S ≡ S'
  pub trees : AreMade made newer

-- another kind or body has the name of such a tree
pub record IsCollision (made : Bytes → Type 0) (S : List Object) (n : Bytes) : Type 0 where
  pub body : Bytes
  pub is_made : made body
  pub held : collision Tree body (find_named S (name Tree body)) ≡ Some (Collides n)

abbrev pub IsTreeFault : (Bytes → Type 0) → List Object → TreeFault → Type 0
IsTreeFault made S (Collision n) = IsCollision made S n.0
IsTreeFault made S OutOfMemory = Unit
