-- The directories on the way to a path, and one of them taken in.
use Rattle.std.specs.Prelude.{◌≡◌, false, length, slice_get, List, [], ◌∷◌, ◌++◌, Option, Some, None}
use Rattle.git_objects.specs.Paths.{Bytes, Path, is_nil}
use Rattle.git_objects.specs.Trees.{Flat, under}
use Rattle.git_objects.specs.Names.{name}
use Rattle.git_objects.specs.declared.kind.Kind.TheVariants.{Tree}
use Rattle.git_objects.specs.declared.mode.Mode.TheVariants.{Dir}
use Rattle.git_objects.specs.declared.name.Name.{Name}
use Rattle.object_store.specs.Objects.{Object, find_named}
use Rattle.object_store.specs.Puts.{Collides, collision, with_object}
use Rattle.object_store.specs.Unfolding.{StandsFor}
use Rattle.path_trees.specs.declared.found.Found.{Found}
use Rattle.path_trees.specs.declared.found.TreeFault.{TreeFault}
use Rattle.path_trees.specs.declared.found.TreeFault.TheVariants.{Collision, OutOfMemory}

-- the tree of that name stands for this map, which has no path where there is no name
abbrev pub IsDirectory : List Object → Flat → Option Name → Type 0
IsDirectory S t None = t ≡ []
IsDirectory S t (Some n) = StandsFor S n.0 t

-- the directories of each path that goes on to p, the shortest first
abbrev pub AreDirectories : List Object → Flat → Path → List Name → Type 0
AreDirectories S t p names = (q : Path) (c : Bytes) (r : Path) → q ++ c ∷ r ≡ p → IsDirectory S (under t q) (slice_get names (length q))

-- a tree of this body is there
abbrev pub IsTaken : List Object → Bytes → List Object → Type 0
IsTaken S b S' = (collision Tree b (find_named S (name Tree b)) ≡ None) × (S' ≡ with_object S Tree b)

-- it can't be, or there is no memory
abbrev pub IsRefused : List Object → Bytes → TreeFault → Type 0
IsRefused S b (Collision n) = collision Tree b (find_named S (name Tree b)) ≡ Some (Collides n.0)
IsRefused S b OutOfMemory = Unit

-- what is found one level above it: nothing, where it is empty
abbrev pub IsAbove : List Object → Bytes → List Object → Option Found → Type 0
IsAbove S b S' None = (b ≡ []) × (S' ≡ S)
IsAbove S b S' (Some f) = (f ≡ record { mode = Dir; name = record { 0 = name Tree b } }) × (is_nil b ≡ false) × IsTaken S b S'
