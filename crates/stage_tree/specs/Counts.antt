-- How many files nodes stand for.
use Rattle.std.specs.Prelude.{◌≡◌, ℕ, ◌+◌, ◌≤◌, Bool, true, false, cond, ◌==◌, length, List, Option, Some, None}
use Rattle.git_objects.specs.declared.limits.TheConstants.{TREE_FILES}
use Rattle.git_objects.specs.Trees.{rests}
use Rattle.object_store.specs.Objects.{Object}
use Rattle.path_trees.specs.Standing.{node}
use Rattle.stage_nodes.specs.declared.nodes.Nodes.{Nodes}
use Rattle.stage_nodes.specs.declared.nodes.Content.{Content}
use Rattle.stage_nodes.specs.declared.nodes.Content.TheVariants.{Held, Open}
use Rattle.stage_nodes.specs.declared.nodes.Link.{Link}
use Rattle.stage_nodes.specs.Forests.{Forest, Nil, Bin, is_link, target, Sound}
use Rattle.stage_nodes.specs.Pools.{Walks, hanging}
use Rattle.stage_nodes.specs.Leaves.{is_held}

-- a node's files, by those of its children
abbrev pub content_files : List Object → Content → ℕ → ℕ
content_files S (Held f) n = length (rests (node S f))
content_files S Open n = n

abbrev pub is_number : Option ℕ → ℕ → Bool
is_number None k = false
is_number (Some j) k = k == j

-- all files without those of the node of a number
abbrev pub files_but : List Object → Option ℕ → Forest → ℕ
files_but S o Nil = 0
files_but S o (Bin k c x l r) = cond (is_number o k) 0 (content_files S x (files_but S o l)) + files_but S o r

abbrev pub files : List Object → Forest → ℕ
files S F = files_but S None F

-- what hangs at a link can be counted
pub record IsCountable (S : List Object) (s : Nodes) (link : Link) : Type 0 where
  pub link_in : is_link s.cells.items link ≡ true
  pub walk : Walks s (target s.cells.items link)
  pub sound : Sound (is_held S) (hanging s link)

-- so many files are no more than a tree may have, and than a number
pub record IsRoom (n m : ℕ) : Type 0 where
  pub few : n ≤ TREE_FILES
  pub most : n ≤ m
