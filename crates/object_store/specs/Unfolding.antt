-- The flat map that a name stands for in a store.
use Rattle.std.specs.Prelude.{cond, List, [], ◌∷◌, ◌++◌, map, ◌≡◌, true}
use Rattle.std.specs.Option.{unwrap_or}
use Rattle.git_objects.specs.Paths.{Bytes}
use Rattle.git_objects.specs.Trees.{FileLeaf, ExecLeaf, LinkLeaf, ModuleLeaf, Flat, Node, LeafNode, TreeNode, rests}
use Rattle.git_objects.specs.Bodies.{tree_entries}
use Rattle.git_objects.specs.declared.entry.Entry.{Entry}
use Rattle.git_objects.specs.declared.kind.Kind.{Kind}
use Rattle.git_objects.specs.declared.kind.Kind.TheVariants.{Blob, Tree, Commit}
use Rattle.git_objects.specs.declared.mode.Mode.{Mode}
use Rattle.git_objects.specs.declared.mode.Mode.TheVariants.{File, Exec, Link, Module, Dir}
use Rattle.object_store.specs.Objects.{Object, is_named, body_of, has}

-- what an entry stands for, by what names of blobs and of trees stand for
abbrev pub node_of : (Bytes → Bytes) → (Bytes → Flat) → Mode → Bytes → Node
node_of blob tree File n = LeafNode (FileLeaf (blob n))
node_of blob tree Exec n = LeafNode (ExecLeaf (blob n))
node_of blob tree Link n = LeafNode (LinkLeaf (blob n))
node_of blob tree Module n = LeafNode (ModuleLeaf n)
node_of blob tree Dir n = TreeNode (tree n)

-- paths behind a component
abbrev pub below : Bytes → Flat → Flat
below c t = map (λ e. (c ∷ e.0, e.1)) t

-- the map of a directory's entries, one after another
abbrev pub joined : (Bytes → Bytes) → (Bytes → Flat) → List Entry → Flat
joined blob tree [] = []
joined blob tree (e ∷ es) = below e.component (rests (node_of blob tree e.mode e.name.0)) ++ joined blob tree es

-- The flat map of the tree of that name, over the objects from the newest to the oldest. A tree's children are older.
unfoldable pub flat : List Object → Bytes → Flat
flat [] n = []
flat (o ∷ older) n = cond (is_named Tree o n) (joined (body_of Blob older) (flat older) (unwrap_or (tree_entries o.body) [])) (flat older n)

-- the part of an entry
abbrev pub entry_flat : List Object → Entry → Flat
entry_flat S e = below e.component (rests (node_of (body_of Blob S) (flat S) e.mode e.name.0))

-- the map that a body stands for behind these objects: none, unless it is a tree's
abbrev pub body_flat : List Object → Kind → Bytes → Flat
body_flat S Tree b = joined (body_of Blob S) (flat S) (unwrap_or (tree_entries b) [])
body_flat S Blob b = []
body_flat S Commit b = []

-- a tree of the store stands for this map
pub record StandsFor (S : List Object) (n : Bytes) (t : Flat) : Type 0 where
  pub held : has Tree S n ≡ true
  pub map : flat S n ≡ t
