-- Worked examples.
use Rattle.std.specs.Prelude.{◌≡◌, refl, ℕ, [], ◌∷◌, codes, replicate, Ok, Err}
use Rattle.git_objects.specs.Paths.{Bytes, Path}
use Rattle.git_objects.specs.Trees.{Leaf, FileLeaf, Flat, LeafNode, TreeNode, put, remove}
use Rattle.stage_tree.specs.declared.fault.StageFault.TheVariants.{NoSource, TooDeep}
use Rattle.stage_nodes.specs.Walks.{above, above_both, entries_of}
use Rattle.stage_tree.specs.Edits.{copied, paths_put, renamed, set_in, within_paths}

abbrev a : Bytes
a = codes "a"

abbrev b : Bytes
b = codes "b"

abbrev c : Bytes
c = codes "c"

abbrev leaf : Leaf
leaf = FileLeaf (codes "1")

abbrev other : Leaf
other = FileLeaf (codes "2")

-- a/b and c
abbrev two : Flat
two = (a ∷ b ∷ [], leaf) ∷ (c ∷ [], other) ∷ []

-- ---- paths that are put

pub path_of_leaf : paths_put (a ∷ []) (LeafNode leaf) ≡ (a ∷ []) ∷ []
path_of_leaf = refl

pub paths_of_tree : paths_put (c ∷ []) (TreeNode two) ≡ (c ∷ a ∷ b ∷ []) ∷ (c ∷ c ∷ []) ∷ []
paths_of_tree = refl

abbrev deep : ℕ → Path
deep n = replicate n a

pub deepest_path : within_paths (deep 127) (TreeNode ((a ∷ [], leaf) ∷ [])) ≡ Ok tt
deepest_path = refl

pub too_deep : within_paths (deep 128) (TreeNode ((a ∷ [], leaf) ∷ [])) ≡ Err TooDeep
too_deep = refl

-- ---- edits

-- a file takes the place of a directory
pub file_set : set_in two (a ∷ []) (LeafNode other) ≡ Ok ((a ∷ [], other) ∷ (c ∷ [], other) ∷ [])
unfolding put
file_set = refl

-- a directory is moved below itself
pub moved_into_itself : renamed two (a ∷ []) (a ∷ b ∷ []) ≡ Ok ((a ∷ b ∷ b ∷ [], leaf) ∷ (c ∷ [], other) ∷ [])
unfolding put remove
moved_into_itself = refl

-- a file is moved into the place of what stood above it
pub moved_above : renamed two (a ∷ b ∷ []) (a ∷ []) ≡ Ok ((a ∷ [], leaf) ∷ (c ∷ [], other) ∷ [])
unfolding put remove
moved_above = refl

-- with what its directory leaves empty
pub moved_apart : renamed two (a ∷ b ∷ []) (b ∷ c ∷ []) ≡ Ok ((b ∷ c ∷ [], leaf) ∷ (c ∷ [], other) ∷ [])
unfolding put remove
moved_apart = refl

-- to where it stands
pub moved_nowhere : renamed two (a ∷ []) (a ∷ []) ≡ Ok two
unfolding put remove
moved_nowhere = refl

-- a file that stands on the way of the target goes
pub moved_over : renamed two (a ∷ []) (c ∷ a ∷ []) ≡ Ok ((c ∷ a ∷ b ∷ [], leaf) ∷ [])
unfolding put remove
moved_over = refl

-- a file moved below its own path
pub file_moved_below : renamed two (c ∷ []) (c ∷ a ∷ []) ≡ Ok ((a ∷ b ∷ [], leaf) ∷ (c ∷ a ∷ [], other) ∷ [])
unfolding put remove
file_moved_below = refl

pub nothing_moved : renamed two (b ∷ []) (a ∷ []) ≡ Err NoSource
nothing_moved = refl

-- what is copied is looked up before anything goes
pub copied_above : copied two (a ∷ b ∷ []) (a ∷ []) ≡ Ok ((a ∷ [], leaf) ∷ (c ∷ [], other) ∷ [])
unfolding put
copied_above = refl

pub copied_below : copied two (a ∷ []) (c ∷ a ∷ []) ≡ Ok ((a ∷ b ∷ [], leaf) ∷ (c ∷ a ∷ b ∷ [], leaf) ∷ [])
unfolding put
copied_below = refl

-- the source is judged before the paths
pub nothing_copied_deep : copied two (b ∷ []) (deep 129) ≡ Err NoSource
nothing_copied_deep = refl

pub copied_too_deep : copied two (a ∷ []) (deep 128) ≡ Err TooDeep
copied_too_deep = refl

-- ---- the directories of a move

pub directories_above : above (a ∷ b ∷ c ∷ []) ≡ (a ∷ b ∷ []) ∷ (a ∷ []) ∷ [] ∷ []
directories_above = refl

-- those of both paths, each once
pub above_each : above_both (a ∷ b ∷ []) (a ∷ c ∷ a ∷ []) ≡ (a ∷ []) ∷ [] ∷ (a ∷ c ∷ []) ∷ []
above_each = refl

pub entries_of_root : entries_of two ([] ∷ (a ∷ []) ∷ []) ≡ 3
entries_of_root = refl
