-- What stands at a path of a tree may be put into a tree.
use Rattle.std.proofs.Common.{◌≡◌, T, [], ◌∷◌, Option, Some, None, IfSome, refl}
use Rattle.std.specs.Option.{option_map, option_or}
use Rattle.git_objects.specs.Paths.{Path}
use Rattle.git_objects.specs.Trees.{Leaf, is_leaf, Flat, IsTree, Node, LeafNode, at, under, if_full, standing}
use Rattle.git_objects.proofs.Pointwise.{IsNode, leaf_at}
use Rattle.git_objects.proofs.Under.{under-tree}

node_or : (o : Option Leaf) (u : Flat) → ((x : Leaf) → o ≡ Some x → T (is_leaf x)) → IsTree u → IfSome (option_or (option_map LeafNode o) (if_full u)) IsNode
node_or None [] f h = tt
node_or None (e ∷ u) f h = h
node_or (Some x) u f h = f x refl

pub standing_node : (t : Flat) (p : Path) → IsTree t → IfSome (standing t p) IsNode
standing_node t p h = node_or (at t p) (under t p) (λ x e. leaf_at is_leaf t p x h.leaves e) (under-tree t p h)

-- what is made of such a node is a tree, where there is one
pub made_tree : (o : Option Node) (f : Node → Flat) → IfSome o IsNode → ((n : Node) → IsNode n → IsTree (f n)) → IfSome (option_map f o) IsTree
made_tree None f h g = tt
made_tree (Some n) f h g = g n h
