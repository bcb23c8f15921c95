-- Directories whose children are nodes.
use Rattle.std.specs.Prelude.{◌≡◌, ℕ, ◌+◌, ◌≤◌, Bool, true, false, ◌||◌, ◌==◌, slice_get, Some}
use Rattle.git_objects.specs.Paths.{Bytes, same_bytes}
use Rattle.path_trees.specs.declared.found.Found.{Found}
use Rattle.stage_nodes.specs.declared.nodes.Node.{Node}
use Rattle.stage_nodes.specs.declared.nodes.Nodes.{Nodes}
use Rattle.stage_nodes.specs.declared.nodes.Content.{Content}
use Rattle.stage_nodes.specs.declared.nodes.Content.TheVariants.{Held, Open}
use Rattle.stage_nodes.specs.declared.nodes.Link.TheVariants.{First}
use Rattle.stage_nodes.specs.Forests.{Forest, Nil, Bin, one, count, Reads, Sound, inserted}
use Rattle.stage_nodes.specs.Pools.{IsKept, IsPool, StayBut, hanging, inside, spare}

abbrev pub any : Content → Bool
any x = true

-- whether a sibling has this component
abbrev pub has_component : Bytes → Forest → Bool
has_component c Nil = false
has_component c (Bin k d x l r) = same_bytes c d || has_component c r

-- whether a sibling has this number
abbrev pub has_number : ℕ → Forest → Bool
has_number m Nil = false
has_number m (Bin k d x l r) = m == k || has_number m r

-- the node of this number is a directory whose children are these
pub record IsDirectory (s : Nodes) (b : ℕ) (K : Forest) : Type 0 where
  pub pool : IsPool s
  pub node : Node
  pub there : slice_get s.cells.items b ≡ Some node
  pub opened : node.content ≡ Open
  pub children : Reads s.names.items s.cells.items node.first K
  pub sound : Sound any K
  pub apart : (m : ℕ) → one (m == b) + count m K + count m (spare s) ≤ inside s m

-- A child of that number was added to it.
pub record IsAddedTo (s s' : Nodes) (b : ℕ) (c : Bytes) (f : Found) (k : ℕ) : Type 0 where
  pub directory : IsDirectory s' b (inserted c k (Held f) Nil (hanging s (First b)))
  pub names : IsKept s.names.items s'.names.items
  -- but for its first child the directory is as it was
  pub node : (n : Node) → slice_get s.cells.items b ≡ Some n → record directory.node { first = n.first } ≡ n
  pub counts : (m : ℕ) → count m (inserted c k (Held f) Nil (hanging s (First b))) + count m (spare s') + inside s m ≡ count m (hanging s (First b)) + count m (spare s) + inside s' m
  pub stay : StayBut s s' (λ m. one (m == b) + count m (hanging s (First b)) + count m (spare s))
