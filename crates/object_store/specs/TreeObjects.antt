-- The objects of a tree: its blobs and trees, each after those that it names, and these in the order of its body.
use Rattle.std.specs.Prelude.{ℕ, zero, suc, List, [], ◌∷◌, ◌++◌, Option, Some, None}
use Rattle.std.specs.List.{flat_map}
use Rattle.git_objects.specs.Paths.{Bytes}
use Rattle.git_objects.specs.Trees.{Leaf, FileLeaf, ExecLeaf, LinkLeaf, ModuleLeaf, Flat, at, under}
use Rattle.git_objects.specs.Names.{body, depth, tops}
use Rattle.git_objects.specs.declared.kind.Kind.TheVariants.{Blob, Tree}
use Rattle.object_store.specs.Objects.{Object}

-- the bytes of a file, an executable or a link; a module's commit is no object of this repository
abbrev pub blob_of : Leaf → Option Bytes
blob_of (FileLeaf b) = Some b
blob_of (ExecLeaf b) = Some b
blob_of (LinkLeaf b) = Some b
blob_of (ModuleLeaf n) = None

-- a leaf's blob
abbrev pub leaf_objects : Leaf → List Object
leaf_objects (FileLeaf b) = record { kind = Blob; body = b } ∷ []
leaf_objects (ExecLeaf b) = record { kind = Blob; body = b } ∷ []
leaf_objects (LinkLeaf b) = record { kind = Blob; body = b } ∷ []
leaf_objects (ModuleLeaf n) = []

-- of a component with a leaf, or of one with these below it
abbrev pub objects_at : Option Leaf → List Object → List Object
objects_at None below = below
objects_at (Some x) below = leaf_objects x

-- of a tree whose paths have fewer than n components
abbrev pub objects_within : ℕ → Flat → List Object
objects_within zero t = []
objects_within (suc n) t =
    flat_map (λ c. objects_at (at t (c ∷ [])) (objects_within n (under t (c ∷ [])))) (tops t) ++ record { kind = Tree; body = body t } ∷ []

-- what stands at each first component, and then the tree
unfoldable pub tree_objects : Flat → List Object
tree_objects t = objects_within (suc (depth t)) t
