-- A directory that a path goes through for the first time: its entries become nodes.
use Rattle.std.specs.List.{All}
use Rattle.std.specs.Prelude.{◌≡◌, ℕ, ◌+◌, ◌-◌, ◌<◌, ◌==◌, Bool, true, false, List, [], ◌∷◌, length, get_or, slice_get, Some, None}
use Rattle.std.specs.declared.cmp.Ordering.TheVariants.{Less}
use Rattle.git_objects.specs.Paths.{Bytes, Path}
use Rattle.git_objects.specs.Trees.{at}
use Rattle.git_objects.specs.declared.entry.Entry.{Entry}
use Rattle.git_objects.specs.declared.kind.Kind.TheVariants.{Blob}
use Rattle.git_objects.specs.declared.mode.Mode.TheVariants.{Dir}
use Rattle.git_objects.specs.declared.name.Name.{Name}
use Rattle.object_store.specs.Objects.{Object, body_of}
use Rattle.object_store.specs.Unfolding.{flat, joined}
use Rattle.path_trees.specs.Listed.{found}
use Rattle.stage_nodes.specs.declared.nodes.Node.{Node}
use Rattle.stage_nodes.specs.declared.nodes.Nodes.{Nodes}
use Rattle.stage_nodes.specs.declared.nodes.Link.TheVariants.{First}
use Rattle.stage_nodes.specs.declared.nodes.Content.{Content}
use Rattle.stage_nodes.specs.declared.nodes.Content.TheVariants.{Held}
use Rattle.stage_nodes.specs.Forests.{Forest, one, count, bytes_cmp, node_component, Sound}
use Rattle.stage_nodes.specs.Pools.{IsKept, IsPool, StayBut, hanging, inside, spare}
use Rattle.stage_nodes.specs.Directories.{IsDirectory, has_component, has_number}
use Rattle.stage_nodes.specs.Leaves.{leaf_in, is_held}

-- each of these numbers is that of a child of the directory
abbrev pub AreChildren : Nodes → ℕ → List ℕ → Type 0
AreChildren s b ks = All (λ k. has_number k (hanging s (First b)) ≡ true) ks

-- the last of these numbers is that of a node whose component comes before this one
abbrev pub IsLastBefore : Nodes → List ℕ → Bytes → Type 0
IsLastBefore s ks c = (k : ℕ) (n : Node) → 0 < length ks → k ≡ get_or ks (length ks - 1) k → slice_get s.cells.items k ≡ Some n → bytes_cmp (node_component s.names.items n) c ≡ Less

-- each entry passes a test as a node's content
abbrev pub AllPass : (Content → Bool) → List Entry → Type 0
AllPass p [] = Unit
AllPass p (e ∷ es) = (p (Held (found e)) ≡ true) × AllPass p es

-- A directory without children has got these entries as children.
pub record IsFilling (s s' : Nodes) (b : ℕ) (es : List Entry) : Type 0 where
  pub kids : Forest
  pub directory : IsDirectory s' b kids
  pub absent : (c : Bytes) → Rattle.path_trees.specs.Listed.entry_at c es ≡ None → has_component c kids ≡ false
  pub leaves : (S : List Object) (c : Bytes) (p : Path) → leaf_in S kids (c ∷ p) ≡ at (joined (body_of Blob S) (flat S) es) (c ∷ p)
  pub sound : (p : Content → Bool) → AllPass p es → Sound p kids
  pub names : IsKept s.names.items s'.names.items
  pub node : (n : Node) → slice_get s.cells.items b ≡ Some n → record directory.node { first = n.first } ≡ n
  pub counts : (m : ℕ) → count m kids + count m (spare s') + inside s m ≡ count m (spare s) + inside s' m
  pub stay : StayBut s s' (λ m. one (m == b) + count m (spare s))

-- some of them, where there was no memory for all
pub record IsPartly (s s' : Nodes) (b : ℕ) : Type 0 where
  pub done : List Entry
  pub filling : IsFilling s s' b done

-- the node of this number is a directory that no path has gone through
pub record IsClosed (s : Nodes) (k : ℕ) (n : Name) : Type 0 where
  pub pool : IsPool s
  pub node : Node
  pub there : slice_get s.cells.items k ≡ Some node
  pub held : node.content ≡ Held (record { mode = Dir; name = n })
  pub first : node.first ≡ None
  pub apart : count k (spare s) ≡ 0

-- its entries are its children now
pub record IsExpanded (S : List Object) (s s' : Nodes) (k : ℕ) (n : Name) : Type 0 where
  pub kids : Forest
  pub directory : IsDirectory s' k kids
  pub leaves : (p : Path) → leaf_in S kids p ≡ at (flat S n.0) p
  pub sound : Sound (is_held S) kids
  pub names : IsKept s.names.items s'.names.items
  pub node : (m : Node) → slice_get s.cells.items k ≡ Some m → record directory.node { first = m.first; content = m.content } ≡ m
  pub counts : (m : ℕ) → count m kids + count m (spare s') + inside s m ≡ count m (spare s) + inside s' m
  pub stay : StayBut s s' (λ m. one (m == k) + count m (spare s))

-- nothing has changed but free nodes
pub record IsWaste (s s' : Nodes) : Type 0 where
  pub pool : IsPool s'
  pub names : IsKept s.names.items s'.names.items
  pub counts : (m : ℕ) → count m (spare s') + inside s m ≡ count m (spare s) + inside s' m
  pub stay : StayBut s s' (λ m. count m (spare s))
