-- The trees that a call makes.
use Rattle.std.specs.Prelude.{List, [], ◌++◌, ◌⊎◌, Contains}
use Rattle.git_objects.specs.Paths.{Bytes, Path}
use Rattle.git_objects.specs.Trees.{Flat}
use Rattle.object_store.specs.Objects.{Object}
use Rattle.object_store.specs.Hands.{IsTreeMade, IsLeafOf, IsComponentOf}
use Rattle.filter_text.specs.Filters.{Filter, Filters, nop, sub, onto, dir, file, exclude, join, chain, workspace, no_more, more}

-- the components of all paths of a filter
abbrev mutual
  pub parts_in : Filter → List Bytes
  parts_in nop = []
  parts_in (sub a) = a
  parts_in (onto a) = a
  parts_in (dir a) = a
  parts_in (file a) = a
  parts_in (exclude f) = parts_in f
  parts_in (join fs) = parts_in_all fs
  parts_in (chain fs) = parts_in_all fs
  parts_in (workspace a) = a

  pub parts_in_all : Filters → List Bytes
  parts_in_all no_more = []
  parts_in_all (more f fs) = parts_in f ++ parts_in_all fs

-- a component of a path of the tree, or of the filter
abbrev pub IsNamedIn : Filter → Flat → Bytes → Type 0
IsNamedIn f t c = IsComponentOf t c ⊎ Contains (parts_in f) c

-- a tree of leaves of this tree, whose paths are of components of its paths
abbrev pub IsPartObject : Flat → Object → Type 0
IsPartObject t = IsTreeMade (IsLeafOf t) (IsComponentOf t)

-- the same, with components of the filter's paths too
abbrev pub IsShownObject : Filter → Flat → Object → Type 0
IsShownObject f t = IsTreeMade (IsLeafOf t) (IsNamedIn f t)

-- a tree of these leaves, whose paths are of components of their paths and of this path
abbrev pub IsPlacedObject : Path → Flat → Object → Type 0
IsPlacedObject p t = IsTreeMade (IsLeafOf t) (λ c. IsComponentOf t c ⊎ Contains p c)

-- a tree of leaves of these two, whose paths are of components of their paths
abbrev pub IsJoinedObject : Flat → Flat → Object → Type 0
IsJoinedObject a b = IsTreeMade (λ x. IsLeafOf a x ⊎ IsLeafOf b x) (λ c. IsComponentOf a c ⊎ IsComponentOf b c)
