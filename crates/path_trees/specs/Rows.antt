-- Worked examples.
use Rattle.std.specs.Prelude.{◌≡◌, refl, [], ◌∷◌, codes, Some, None}
use Rattle.git_objects.specs.Paths.{Bytes}
use Rattle.git_objects.specs.Trees.{Leaf, FileLeaf, LeafNode, TreeNode, put, remove, standing, copy, rename}
use Rattle.path_trees.specs.Clashes.{clash, together}

abbrev a : Bytes
a = codes "a"

abbrev b : Bytes
b = codes "b"

abbrev c : Bytes
c = codes "c"

abbrev x : Bytes
x = codes "x"

abbrev text : Bytes
text = codes "a.txt"

abbrev leaf : Leaf
leaf = FileLeaf (codes "1")

abbrev other : Leaf
other = FileLeaf (codes "2")

-- ---- what stands at a path

pub leaf_stands : standing ((a ∷ b ∷ [], leaf) ∷ []) (a ∷ b ∷ []) ≡ Some (LeafNode leaf)
leaf_stands = refl

pub directory_stands : standing ((a ∷ b ∷ [], leaf) ∷ (a ∷ c ∷ [], other) ∷ []) (a ∷ []) ≡ Some (TreeNode ((b ∷ [], leaf) ∷ (c ∷ [], other) ∷ []))
directory_stands = refl

-- not below a leaf, and not beside it
pub nothing_below : standing ((a ∷ [], leaf) ∷ []) (a ∷ b ∷ []) ≡ None
nothing_below = refl

pub nothing_beside : standing ((text ∷ [], leaf) ∷ []) (a ∷ []) ≡ None
nothing_beside = refl

-- ---- edits

-- a file in a directory's place, and the other way round
pub file_for_directory : put ((a ∷ b ∷ [], leaf) ∷ (a ∷ c ∷ [], leaf) ∷ []) (a ∷ []) (LeafNode other) ≡ (a ∷ [], other) ∷ []
unfolding put
file_for_directory = refl

pub directory_for_file : put ((a ∷ [], leaf) ∷ []) (a ∷ b ∷ []) (LeafNode other) ≡ (a ∷ b ∷ [], other) ∷ []
unfolding put
directory_for_file = refl

-- a neighbour with the same beginning stays
pub neighbour_stays : remove ((text ∷ [], other) ∷ (a ∷ b ∷ [], leaf) ∷ []) (a ∷ []) ≡ (text ∷ [], other) ∷ []
unfolding remove
neighbour_stays = refl

-- a file that becomes a directory of its name, that is copied, a removal of nothing, and a move of nothing
pub moved_below : rename ((a ∷ [], leaf) ∷ []) (a ∷ []) (a ∷ b ∷ []) ≡ Some ((a ∷ b ∷ [], leaf) ∷ [])
unfolding put remove
moved_below = refl

pub copied : copy ((a ∷ b ∷ [], leaf) ∷ []) (a ∷ []) (c ∷ []) ≡ Some ((a ∷ b ∷ [], leaf) ∷ (c ∷ b ∷ [], leaf) ∷ [])
unfolding put
copied = refl

pub nothing_removed : remove ((a ∷ b ∷ [], leaf) ∷ (c ∷ b ∷ [], leaf) ∷ []) (codes "q" ∷ []) ≡ (a ∷ b ∷ [], leaf) ∷ (c ∷ b ∷ [], leaf) ∷ []
unfolding remove
nothing_removed = refl

pub nothing_moved : rename ((a ∷ b ∷ [], leaf) ∷ (c ∷ b ∷ [], leaf) ∷ []) (codes "q" ∷ []) (codes "z" ∷ []) ≡ None
nothing_moved = refl

-- ---- two trees

pub file_and_directory : clash ((a ∷ [], leaf) ∷ []) ((a ∷ x ∷ [], other) ∷ []) ≡ Some (a ∷ [], a ∷ x ∷ [])
file_and_directory = refl

-- the first path of the first tree, and of the second the first that is comparable with it
pub first_clash : clash ((a ∷ [], leaf) ∷ (b ∷ x ∷ [], leaf) ∷ (c ∷ [], leaf) ∷ []) ((b ∷ [], leaf) ∷ (c ∷ a ∷ [], leaf) ∷ []) ≡ Some (b ∷ x ∷ [], b ∷ [])
first_clash = refl

pub no_clash : clash ((a ∷ [], leaf) ∷ []) ((text ∷ [], other) ∷ []) ≡ None
no_clash = refl

pub put_together : together ((a ∷ b ∷ [], leaf) ∷ []) ((text ∷ [], other) ∷ (a ∷ c ∷ [], other) ∷ []) ≡ (text ∷ [], other) ∷ (a ∷ b ∷ [], leaf) ∷ (a ∷ c ∷ [], other) ∷ []
unfolding together
put_together = refl
