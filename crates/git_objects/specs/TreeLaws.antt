-- Laws of trees, edits and bodies.
use Rattle.std.specs.Prelude.{◌≡◌, ◌↔◌, true, List, ◌∷◌, map, Contains, IfSome}
use Rattle.git_objects.specs.Paths.{Bytes, Path, is_path}
use Rattle.git_objects.specs.Trees.{Leaf, is_leaf, Flat, IsTree, LeafNode, TreeNode, at, put, remove, under, copy, rename}
use Rattle.git_objects.specs.Names.{body, tree_name, tops}
use Rattle.git_objects.specs.Entries.{entry_component}
use Rattle.git_objects.specs.Bodies.{IsTreeBody}
use Rattle.git_objects.specs.declared.entry.Entry.{Entry}

-- what an edit leaves is a tree, and so is what lies below a path
pub record EditLaw : Type 0 where
  pub puts : (t : Flat) (p : Path) (x : Leaf) → IsTree t → is_path p ≡ true → is_leaf x ≡ true → IsTree (put t p (LeafNode x))
  pub puts_below : (t : Flat) (p : Path) (u : Flat) → IsTree t → is_path p ≡ true → IsTree u → IsTree (put t p (TreeNode u))
  pub removes : (t : Flat) (p : Path) → IsTree t → IsTree (remove t p)
  pub renames : (t : Flat) (s p : Path) → IsTree t → is_path p ≡ true → IfSome (rename t s p) IsTree
  pub copies : (t : Flat) (s p : Path) → IsTree t → is_path p ≡ true → IfSome (copy t s p) IsTree
  pub lies_below : (t : Flat) (p : Path) → IsTree t → IsTree (under t p)

-- trees that answer alike at each path are equal, and so have equal names
abbrev pub NameLaw : Type 0
NameLaw = (a b : Flat) → IsTree a → IsTree b → ((p : Path) → at a p ≡ at b p) → tree_name a ≡ tree_name b

-- a path of the tree begins with this component
abbrev pub Begins : Flat → Bytes → Type 0
Begins t c = (q : Path) × (x : Leaf) × Contains t (c ∷ q, x)

-- what a tree's body lists
pub record IsListed (t : Flat) (es : List Entry) : Type 0 where
  -- entries in Git's order, of distinct components, and the body is theirs
  pub body : IsTreeBody es (body t)
  -- an entry for each first component
  pub components : map entry_component es ≡ tops t
  pub firsts : (c : Bytes) → Contains (tops t) c ↔ Begins t c

-- a tree's body lists each first component once, in Git's order
abbrev pub ListingLaw : Type 0
ListingLaw = (t : Flat) → IsTree t → (es : List Entry) × IsListed t es
