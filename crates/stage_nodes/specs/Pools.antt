-- The free nodes, and how nodes are taken and given back.
use Rattle.std.specs.Prelude.{◌≡◌, ℕ, ◌+◌, ◌≤◌, ◌==◌, nat_lt, List, [], ◌∷◌, ◌++◌, length, slice_get, slice_set, Option, Some, None}
use Rattle.std.specs.Option.{option_and_then}
use Rattle.git_objects.specs.Paths.{Bytes}
use Rattle.stage_nodes.specs.declared.nodes.Node.{Node}
use Rattle.stage_nodes.specs.declared.nodes.Content.{Content}
use Rattle.stage_nodes.specs.declared.nodes.Link.{Link}
use Rattle.stage_nodes.specs.declared.nodes.Link.TheVariants.{Next}
use Rattle.stage_nodes.specs.declared.nodes.Nodes.{Nodes}
use Rattle.stage_nodes.specs.Forests.{Forest, Nil, Bin, one, count, IsCell, forest, forest_behind, IsWalk}
use Rattle.stage_nodes.specs.Frames.{pointed}

-- one after another
abbrev pub IsChain : Forest → Type 0
IsChain Nil = Unit
IsChain (Bin k c x l r) = (l ≡ Nil) × IsChain r

-- the components' bytes have only grown
pub record IsKept (names names' : Bytes) : Type 0 where
  pub more : Bytes
  pub front : names ++ more ≡ names'

-- a number is in the vector
abbrev pub inside : Nodes → ℕ → ℕ
inside s m = one (nat_lt m (length s.cells.items))

abbrev pub spare : Nodes → Forest
spare s = forest s.names.items s.cells.items s.free

-- what hangs at a link
abbrev pub hanging : Nodes → Link → Forest
hanging s link = forest_behind s.names.items s.cells.items link

abbrev pub Walks : Nodes → Option ℕ → Type 0
Walks s i = IsWalk s.names.items s.cells.items i

-- the free nodes are a chain of distinct numbers of the vector
pub record IsPool (s : Nodes) : Type 0 where
  pub walk : Walks s s.free
  pub chain : IsChain (spare s)
  pub apart : (m : ℕ) → count m (spare s) ≤ inside s m

-- nodes that are none of these stay
abbrev pub StayBut : Nodes → Nodes → (ℕ → ℕ) → Type 0
StayBut s s' touched = (m : ℕ) (n : Node) → touched m ≡ 0 → slice_get s.cells.items m ≡ Some n → slice_get s'.cells.items m ≡ Some n

-- ---- one node taken

abbrev pub place_number : List Node → Option ℕ → ℕ
place_number ns None = length ns
place_number ns (Some k) = k

abbrev pub placed : List Node → Option ℕ → Node → List Node
placed ns None n = ns ++ n ∷ []
placed ns (Some k) n = slice_set ns k n

abbrev pub free_after : List Node → Option ℕ → Option ℕ
free_after ns None = None
free_after ns (Some k) = option_and_then (λ n. n.next) (slice_get ns k)

-- a node of this number was taken, which nothing reaches
pub record IsAdded (s s' : Nodes) (c : Bytes) (x : Content) (j : Option ℕ) (k : ℕ) : Type 0 where
  pub pool : IsPool s'
  pub counts : (m : ℕ) → count m (spare s') + one (m == k) + inside s m ≡ count m (spare s) + inside s' m
  pub names : IsKept s.names.items s'.names.items
  pub stay : StayBut s s' (λ m. count m (spare s))
  pub node : Node
  pub there : slice_get s'.cells.items k ≡ Some node
  pub cell : IsCell s'.names.items node c x
  pub first : node.first ≡ j
  pub next : node.next ≡ None

-- ---- nodes given back

-- the nodes from a number on may be given back
pub record CanFree (s : Nodes) (i : Option ℕ) : Type 0 where
  pub pool : IsPool s
  pub walk : Walks s i
  pub apart : (m : ℕ) → count m (forest s.names.items s.cells.items i) + count m (spare s) ≤ inside s m

pub record IsFreed (s s' : Nodes) (i : Option ℕ) : Type 0 where
  pub pool : IsPool s'
  pub counts : (m : ℕ) → count m (spare s') ≡ count m (forest s.names.items s.cells.items i) + count m (spare s)
  pub names : s'.names.items ≡ s.names.items
  pub long : length s'.cells.items ≡ length s.cells.items
  pub stay : StayBut s s' (λ m. count m (forest s.names.items s.cells.items i) + count m (spare s))

-- nothing has changed but the components' bytes, which have grown
pub record IsSame (s s' : Nodes) : Type 0 where
  pub cells : s'.cells.items ≡ s.cells.items
  pub free : s'.free ≡ s.free
  pub names : IsKept s.names.items s'.names.items

-- while they are given back
pub record IsFreeing (s s' : Nodes) (i j : Option ℕ) : Type 0 where
  pub can : CanFree s' j
  pub counts : (m : ℕ) → count m (forest s'.names.items s'.cells.items j) + count m (spare s') ≡ count m (forest s.names.items s.cells.items i) + count m (spare s)
  pub names : s'.names.items ≡ s.names.items
  pub long : length s'.cells.items ≡ length s.cells.items
  pub stay : StayBut s s' (λ m. count m (forest s.names.items s.cells.items i) + count m (spare s))

-- A node was put before what hung at a link, by two writes.
pub record IsPutBefore (s s' : Nodes) (link : Link) (i : Option ℕ) (k : ℕ) : Type 0 where
  pub middle : Nodes
  pub next_cells : middle.cells.items ≡ pointed s.cells.items (Next k) i
  pub next_names : middle.names.items ≡ s.names.items
  pub next_free : middle.free ≡ s.free
  pub link_cells : s'.cells.items ≡ pointed middle.cells.items link (Some k)
  pub link_names : s'.names.items ≡ middle.names.items
  pub link_free : s'.free ≡ middle.free
