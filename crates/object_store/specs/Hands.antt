-- Trees that are made of what a call has in hand: leaves, and components of paths.
use Rattle.std.specs.Prelude.{◌≡◌, map, flat_map, Contains}
use Rattle.git_objects.specs.Lists.{Each}
use Rattle.git_objects.specs.Paths.{Bytes}
use Rattle.git_objects.specs.Trees.{Leaf, Flat, IsTree}
use Rattle.git_objects.specs.Names.{body}
use Rattle.git_objects.specs.declared.kind.Kind.TheVariants.{Tree}
use Rattle.object_store.specs.Objects.{Object}

-- a tree of such leaves, and of paths of such components
pub record IsTreeOver (leaves : Leaf → Type 0) (components : Bytes → Type 0) (t : Flat) : Type 0 where
  pub tree : IsTree t
  pub all_leaves : Each (λ e. leaves e.1) t
  pub all_components : Each (λ e. Each components e.0) t

abbrev pub tree_object : Flat → Object
tree_object t = record { kind = Tree; body = body t }

-- the object of such a tree
abbrev pub IsTreeMade : (Leaf → Type 0) → (Bytes → Type 0) → Object → Type 0
IsTreeMade leaves components o = (t : Flat) × IsTreeOver leaves components t × (o ≡ tree_object t)

-- a leaf of this tree
abbrev pub IsLeafOf : Flat → Leaf → Type 0
IsLeafOf t x = Contains (map (λ e. e.1) t) x

-- a component of one of its paths
abbrev pub IsComponentOf : Flat → Bytes → Type 0
IsComponentOf t c = Contains (flat_map (λ e. e.0) t) c
