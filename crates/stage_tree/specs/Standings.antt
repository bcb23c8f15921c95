-- What stands at a node.
use Rattle.std.specs.Prelude.{◌≡◌, ℕ, ◌++◌, [], ◌∷◌, List, Some}
use Rattle.git_objects.specs.Paths.{Path}
use Rattle.git_objects.specs.Trees.{Flat, IsTree, Node, standing}
use Rattle.object_store.specs.Objects.{Object}
use Rattle.stage_nodes.specs.declared.nodes.Nodes.{Nodes}
use Rattle.stage_nodes.specs.Branches.{Stands}
use Rattle.stage_nodes.specs.Ways.{HasPlace}

-- the nodes stand for a tree, and a node with a place for what stands at its path
pub record Holds (S : List Object) (s : Nodes) {k : ℕ} (h : HasPlace S s (Some k)) (t : Flat) (n : Node) : Type 0 where
  pub tree : IsTree t
  pub stands : Stands S s t
  pub there : standing t (h.path ++ h.component ∷ []) ≡ Some n

-- the place of the node at a path
pub record IsNodeAt (S : List Object) (s : Nodes) (p : Path) (k : ℕ) : Type 0 where
  pub place : HasPlace S s (Some k)
  pub path : place.path ++ place.component ∷ [] ≡ p
