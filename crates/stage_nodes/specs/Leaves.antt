-- What a forest stands for over a store.
use Rattle.std.specs.Prelude.{Bool, true, cond, ◌&&◌, List, [], ◌∷◌, Option, None}
use Rattle.git_objects.specs.Paths.{Path, same_bytes}
use Rattle.git_objects.specs.Trees.{Leaf, at, rests}
use Rattle.git_objects.specs.Bodies.{is_name}
use Rattle.object_store.specs.Objects.{Object, has_child}
use Rattle.path_trees.specs.Standing.{node}
use Rattle.stage_nodes.specs.declared.nodes.Content.{Content}
use Rattle.stage_nodes.specs.declared.nodes.Content.TheVariants.{Held, Open}
use Rattle.stage_nodes.specs.Forests.{Forest, Nil, Bin}

-- the leaf below a node, by the path behind its own
abbrev pub leaf_below : List Object → Content → (Path → Option Leaf) → Path → Option Leaf
leaf_below S (Held f) children p = at (rests (node S f)) p
leaf_below S Open children p = children p

-- the leaf at a path
abbrev pub leaf_in : List Object → Forest → Path → Option Leaf
leaf_in S Nil p = None
leaf_in S (Bin k d x l r) [] = None
leaf_in S (Bin k d x l r) (c ∷ p) = cond (same_bytes c d) (leaf_below S x (leaf_in S l) p) (leaf_in S r (c ∷ p))

-- whether what a node names is held
abbrev pub is_held : List Object → Content → Bool
is_held S (Held f) = has_child S f.mode f.name.0 && is_name f.name.0
is_held S Open = true
