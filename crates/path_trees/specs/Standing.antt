-- What a stored mode and name stand for, and paths with no leaf on the way.
use Rattle.std.specs.Prelude.{◌≡◌, ◌∷◌, ◌++◌, List, None}
use Rattle.git_objects.specs.Paths.{Bytes, Path}
use Rattle.git_objects.specs.Trees.{Flat, Node, at}
use Rattle.git_objects.specs.declared.kind.Kind.TheVariants.{Blob}
use Rattle.object_store.specs.Objects.{Object, body_of}
use Rattle.object_store.specs.Unfolding.{flat, node_of}
use Rattle.path_trees.specs.declared.found.Found.{Found}

-- what a mode and a name stand for in a store
abbrev pub node : List Object → Found → Node
node S f = node_of (body_of Blob S) (flat S) f.mode f.name.0

-- no leaf stands on the way to a path
abbrev pub IsClear : Flat → Path → Type 0
IsClear t p = (q : Path) (c : Bytes) (r : Path) → q ++ c ∷ r ≡ p → at t q ≡ None
