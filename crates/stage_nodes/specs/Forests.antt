-- What the vector's links reach, as a tree of numbers: of each node its children, and the siblings behind it.
use Rattle.std.specs.Prelude.{◌≡◌, ℕ, zero, suc, ◌+◌, ◌*◌, ◌≤◌, Bool, true, false, cond, ◌==◌, nat_lt, List, length, slice_get, slice_range, Option, Some, None}
use Rattle.std.specs.Option.{option_and_then}
use Rattle.std.specs.Ordering.{nat_cmp, is_lt}
use Rattle.std.specs.Cmp.Lexicographic.{slice_cmp}
use Rattle.std.specs.declared.cmp.Ordering.{Ordering}
use Rattle.std.specs.declared.cmp.Ordering.TheVariants.{Less}
use Rattle.git_objects.specs.Paths.{Bytes, is_component}
use Rattle.stage_nodes.specs.declared.nodes.Node.{Node}
use Rattle.stage_nodes.specs.declared.nodes.Content.{Content}
use Rattle.stage_nodes.specs.declared.nodes.Content.TheVariants.{Held, Open}
use Rattle.stage_nodes.specs.declared.nodes.Link.{Link}
use Rattle.stage_nodes.specs.declared.nodes.Link.TheVariants.{First, Next}

-- a node's number, component and content, its children, and the siblings behind it
pub data Forest : Type 0 where
  Nil : Forest
  Bin : ℕ → Bytes → Content → Forest → Forest → Forest

abbrev pub one : Bool → ℕ
one true = 1
one false = 0

-- how many nodes
abbrev pub size : Forest → ℕ
size Nil = 0
size (Bin k c x l r) = size l + size r + 1

-- what falls with each turn in which nodes are given back
abbrev pub weight : Forest → ℕ
weight Nil = 0
weight (Bin k c x l r) = 2 * size l + weight r + 1

-- how often a number is reached
abbrev pub count : ℕ → Forest → ℕ
count n Nil = 0
count n (Bin k c x l r) = one (n == k) + count n l + count n r

-- ---- read from the vector

abbrev pub node_component : Bytes → Node → Bytes
node_component names n = slice_range names n.at (n.at + n.len)

pub record IsCell (names : Bytes) (n : Node) (c : Bytes) (x : Content) : Type 0 where
  pub within : n.at + n.len ≤ length names
  pub component : node_component names n ≡ c
  pub content : n.content ≡ x

-- the links from a number on reach these nodes
pub record IsTop (names : Bytes) (ns : List Node) (i : Option ℕ) (k : ℕ) (c : Bytes) (x : Content) (L R : Option ℕ → Type 0) : Type 0 where
  pub number : i ≡ Some k
  pub node : Node
  pub there : slice_get ns k ≡ Some node
  pub cell : IsCell names node c x
  pub children : L node.first
  pub siblings : R node.next

abbrev pub Reads : Bytes → List Node → Option ℕ → Forest → Type 0
Reads names ns i Nil = i ≡ None
Reads names ns i (Bin k c x l r) = IsTop names ns i k c x (λ j. Reads names ns j l) (λ j. Reads names ns j r)

-- the nodes that the links from a number on reach, in so many steps
abbrev pub grown_node : (Option ℕ → Forest) → Bytes → ℕ → Option Node → Forest
grown_node rest names k None = Nil
grown_node rest names k (Some n) = Bin k (node_component names n) n.content (rest n.first) (rest n.next)

abbrev pub grown_at : (Option ℕ → Forest) → Bytes → List Node → Option ℕ → Forest
grown_at rest names ns None = Nil
grown_at rest names ns (Some k) = grown_node rest names k (slice_get ns k)

abbrev pub grown : Bytes → List Node → ℕ → Option ℕ → Forest
grown names ns zero i = Nil
grown names ns (suc f) i = grown_at (grown names ns f) names ns i

unfoldable pub forest : Bytes → List Node → Option ℕ → Forest
forest names ns i = grown names ns (length ns) i

-- the walk from a number ends within the vector
abbrev pub IsWalk : Bytes → List Node → Option ℕ → Type 0
IsWalk names ns i = Reads names ns i (forest names ns i)

-- ---- links

abbrev pub target : List Node → Link → Option ℕ
target ns (First k) = option_and_then (λ n. n.first) (slice_get ns k)
target ns (Next k) = option_and_then (λ n. n.next) (slice_get ns k)

abbrev pub is_link : List Node → Link → Bool
is_link ns (First k) = nat_lt k (length ns)
is_link ns (Next k) = nat_lt k (length ns)

abbrev pub forest_behind : Bytes → List Node → Link → Forest
forest_behind names ns link = forest names ns (target ns link)

-- ---- siblings

abbrev pub bytes_cmp : Bytes → Bytes → Ordering
bytes_cmp c d = slice_cmp nat_cmp c d

-- where a component stands, or would stand
abbrev pub sought : Bytes → Link → Forest → Link
sought c link Nil = link
sought c link (Bin k d x l r) = cond (is_lt (bytes_cmp d c)) (sought c (Next k) r) link

-- this component stands before all of these siblings
abbrev pub Beyond : Bytes → Forest → Type 0
Beyond c Nil = Unit
Beyond c (Bin k d x l r) = (bytes_cmp c d ≡ Less) × Beyond c r

-- a leaf or an unexpanded directory has no children, and any other directory has some
abbrev pub IsFilled : Content → Forest → Type 0
IsFilled (Held f) l = l ≡ Nil
IsFilled Open Nil = ⊥
IsFilled Open (Bin k c x l r) = Unit

pub record IsSound (p : Content → Bool) (c : Bytes) (x : Content) (l : Forest) : Type 0 where
  pub component : is_component c ≡ true
  pub filled : IsFilled x l
  pub content : p x ≡ true

-- siblings in the order of their components' bytes, at every level
abbrev pub Sound : (Content → Bool) → Forest → Type 0
Sound p Nil = Unit
Sound p (Bin k c x l r) = IsSound p c x l × Beyond c r × Sound p l × Sound p r

-- a component and its content put among siblings, and taken out
abbrev pub inserted : Bytes → ℕ → Content → Forest → Forest → Forest
inserted c k x l Nil = Bin k c x l Nil
inserted c k x l (Bin j d y m r) = cond (is_lt (bytes_cmp d c)) (Bin j d y m (inserted c k x l r)) (Bin k c x l (Bin j d y m r))
