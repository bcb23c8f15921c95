-- What contracts see of filters around their workspace, and of leaves.
use Rattle.std.specs.Prelude.{◌≡◌, true, List, Option, Some, IfSome}
use Rattle.std.specs.Option.{option_map}
use Rattle.git_objects.specs.Trees as trees
use Rattle.git_objects.specs.declared.kind.Kind.TheVariants.{Blob}
use Rattle.object_store.specs.Objects.{Object, body_of, has_child}
use Rattle.path_trees.specs.Walked.{leaf_of}
use Rattle.path_trees.specs.declared.found.Leaf.{Leaf}
use Rattle.filter_text.specs.Filters.{Filter}
use Rattle.filter_text.specs.Shapes.{shapes}
use Rattle.workspace.specs.Laws.{IsUsable}
use Rattle.workspace.specs.Workspaces.{Split, split}
use Rattle.workspace.specs.declared.parts.Parts.{Parts}

abbrev pub parts_value : Parts → Split
parts_value s = record { before = shapes s.before.now; directory = s.directory.now; behind = shapes s.behind.now }

-- the parts of a sound filter of paths around its workspace
abbrev pub AreUsable : Split → Type 0
AreUsable s = (f : Filter) × IsUsable f × (split f ≡ Some s)

-- the leaf that a mode and a name stand for in a store
abbrev pub leaf_value : List Object → Leaf → trees.Leaf
leaf_value S x = leaf_of (body_of Blob S) x.mode x.name.0

-- what a leaf that may be there stands for in a store
abbrev pub found_value : List Object → Option Leaf → Option trees.Leaf
found_value S x = option_map (leaf_value S) x

-- the blob that the leaf names, where it names one, is in the store
abbrev pub IsHeldLeaf : List Object → Option Leaf → Type 0
IsHeldLeaf S x = IfSome x (λ l. has_child S l.mode l.name.0 ≡ true)
