-- Nodes copied with all below them.
use Rattle.std.specs.Prelude.{◌≡◌, ℕ, ◌+◌, ◌*◌, ◌≤◌, ◌==◌, Bool, true, false, List, [], ◌∷◌, ◌++◌, slice_get, length, Option, Some, None, ◌⊎◌, IfOk, IfErr, IsOkAnd, Result, Err}
use Rattle.git_objects.specs.Paths.{Bytes, Path}
use Rattle.git_objects.specs.Trees.{Flat, Node as FlatNode, at, put, rests}
use Rattle.stage_nodes.specs.Branches.{Stands}
use Rattle.stage_tree.specs.Renames.{CanMove}
use Rattle.stage_nodes.specs.Ways.{IsOpen, IsStill}
use Rattle.object_store.specs.Objects.{Object}
use Rattle.stage_tree.specs.Counts.{content_files, files}
use Rattle.stage_tree.specs.declared.fault.StageFault.{StageFault}
use Rattle.stage_tree.specs.declared.fault.StageFault.TheVariants.{OutOfMemory}
use Rattle.stage_nodes.specs.declared.nodes.Node.{Node}
use Rattle.stage_nodes.specs.declared.nodes.Content.{Content}
use Rattle.stage_nodes.specs.declared.nodes.Link.TheVariants.{First}
use Rattle.stage_nodes.specs.declared.nodes.Nodes.{Nodes}
use Rattle.stage_tree.specs.declared.copies.Work.{Work}
use Rattle.stage_tree.specs.declared.copies.Work.TheVariants.{Siblings, Children}
use Rattle.stage_tree.specs.declared.copies.Turn.{Turn}
use Rattle.stage_tree.specs.declared.copies.Turn.TheVariants.{Copy, Copied}
use Rattle.stage_nodes.specs.Forests.{Forest, Nil, Bin, IsCell, one, count, forest, size, Reads}
use Rattle.stage_nodes.specs.Pools.{IsKept, IsPool, StayBut, hanging, inside, spare}

-- the same but for the numbers
abbrev pub IsAlike : Forest → Forest → Type 0
IsAlike Nil Nil = Unit
IsAlike Nil (Bin k c x l r) = ⊥
IsAlike (Bin k c x l r) Nil = ⊥
IsAlike (Bin k c x l r) (Bin j d y m w) = (c ≡ d) × (x ≡ y) × IsAlike l m × IsAlike r w

-- the nodes from a number on may be copied
pub record CanCopy (s : Nodes) (i : Option ℕ) : Type 0 where
  pub pool : IsPool s
  pub source : Forest
  pub reads : Reads s.names.items s.cells.items i source
  pub apart : (m : ℕ) → count m source + count m (spare s) ≤ inside s m

-- their copies are there, which nothing reaches
pub record IsCopied (s s' : Nodes) (i j : Option ℕ) (h : CanCopy s i) : Type 0 where
  pub copy : Forest
  pub reads : Reads s'.names.items s'.cells.items j copy
  pub alike : IsAlike h.source copy
  pub pool : IsPool s'
  pub names : IsKept s.names.items s'.names.items
  pub counts : (m : ℕ) → count m copy + count m (spare s') + inside s m ≡ count m (spare s) + inside s' m
  pub stay : StayBut s s' (λ m. count m (spare s))

-- ---- while they are copied

-- what a node waits for: its later siblings, or its children, once the copies of those siblings are there
abbrev pub IsStep : Nodes → Work → Forest → Forest → (ℕ → ℕ) → Type 0
IsStep s (Siblings k) Nil F D = ⊥
IsStep s (Siblings k) (Bin j c x l r) F D = (k ≡ j) × (r ≡ F) × ((m : ℕ) → D m ≡ 0)
IsStep s (Children k a) Nil F D = ⊥
IsStep s (Children k a) (Bin j c x l r) F D = (k ≡ j) × (l ≡ F) × (A : Forest) × Reads s.names.items s.cells.items a A × IsAlike r A × ((m : ℕ) → D m ≡ count m A)

-- the nodes that wait, the outermost coming first, from all that is copied to what is copied now
abbrev pub ArePending : Nodes → List Work → Forest → Forest → (ℕ → ℕ) → Type 0
ArePending s [] G F D = (G ≡ F) × ((m : ℕ) → D m ≡ 0)
ArePending s (w ∷ ws) G F D = (H : Forest) × (before : ℕ → ℕ) × (now : ℕ → ℕ) × IsStep s w G H before × ArePending s ws H F now × ((m : ℕ) → D m ≡ before m + now m)

-- what comes next: the nodes from a number on as they were, or their copies
abbrev pub IsNext : Nodes → Nodes → Turn → Forest → (ℕ → ℕ) → Type 0
IsNext s0 s (Copy i) F D = Reads s0.names.items s0.cells.items i F × ((m : ℕ) → D m ≡ 0)
IsNext s0 s (Copied a) F D = (A : Forest) × Reads s.names.items s.cells.items a A × IsAlike F A × ((m : ℕ) → D m ≡ count m A)

-- the nodes are as they were but for the copies
pub record IsGrowing (s0 s : Nodes) (D : ℕ → ℕ) : Type 0 where
  pub pool : IsPool s
  pub old_pool : IsPool s0
  pub names : IsKept s0.names.items s.names.items
  pub counts : (m : ℕ) → D m + count m (spare s) + inside s0 m ≡ count m (spare s0) + inside s m
  pub stay : StayBut s0 s (λ m. count m (spare s0))

pub record IsCopying (s0 s : Nodes) (source : Forest) (works : List Work) (turn : Turn) : Type 0 where
  pub from : Option ℕ
  pub now : Forest
  pub waiting : ℕ → ℕ
  pub coming : ℕ → ℕ
  pub pending : ArePending s works source now waiting
  pub next : IsNext s0 s turn now coming
  pub reads : Reads s0.names.items s0.cells.items from source
  pub apart : (m : ℕ) → count m source + count m (spare s0) ≤ inside s0 m
  pub growing : IsGrowing s0 s (λ m. waiting m + coming m)

-- the copies of those that wait are given back
pub record IsDropping (s0 s : Nodes) (source : Forest) (works : List Work) : Type 0 where
  pub now : Forest
  pub waiting : ℕ → ℕ
  pub pending : ArePending s works source now waiting
  pub growing : IsGrowing s0 s waiting

-- ---- one copy

pub record CanCopyOne (s : Nodes) (n : ℕ) : Type 0 where
  pub pool : IsPool s
  pub component : Bytes
  pub content : Content
  pub node : Node
  pub there : slice_get s.cells.items n ≡ Some node
  pub cell : IsCell s.names.items node component content

pub record IsOneCopied (s s' : Nodes) (i j : Option ℕ) (k : ℕ) (c : Bytes) (x : Content) : Type 0 where
  pub growing : IsGrowing s s' (λ m. one (m == k))
  pub reads : (l r : Forest) → Reads s.names.items s.cells.items i l → Reads s.names.items s.cells.items j r → ((m : ℕ) → count m l + count m r + count m (spare s) ≤ inside s m) → Reads s'.names.items s'.cells.items (Some k) (Bin k c x l r)

-- ---- turns

abbrev pub turns_of : Nodes → Turn → ℕ
turns_of s (Copy i) = 4 * size (forest s.names.items s.cells.items i) + 1
turns_of s (Copied a) = 0

abbrev pub works_of : Nodes → List Work → ℕ
works_of s [] = 0
works_of s (Siblings k ∷ ws) = 4 * size (hanging s (First k)) + 3 + works_of s ws
works_of s (Children k a ∷ ws) = 1 + works_of s ws

-- there is a node that waits, or nodes are to be copied
abbrev pub is_turn : List Work → Turn → Bool
is_turn [] (Copied a) = false
is_turn (w ∷ ws) (Copied a) = true
is_turn ws (Copy i) = true

-- ---- a copy put at a path

pub record IsDuplicated (s s' : Nodes) (k : ℕ) (p : Path) (h : CanMove s k p) : Type 0 where
  pub opened : IsOpen h.objects s'
  pub puts : (t : Flat) → Stands h.objects s t → (n : FlatNode) → ((r : Path) → at (rests n) r ≡ at t (h.path ++ h.component ∷ r)) → Stands h.objects s' (put t p n)

-- the files of what stands at a node
abbrev pub node_files : List Object → Nodes → ℕ → Option Node → ℕ
node_files S s k None = 0
node_files S s k (Some n) = content_files S n.content (files S (hanging s (First k)))

-- A copy was made: it isn't refused, the nodes stand for the tree that is left, and it has no more files than that. Or it
-- wasn't: it is refused so, or there was no memory, and the nodes stand for what they stood for.
pub record IsCopyTo (S : List Object) (s s' : Nodes) (left : Result Flat StageFault) (result : Result ℕ StageFault) : Type 0 where
  pub done : IfOk result (λ m. IsOkAnd left (λ t. IsOpen S s' × Stands S s' t × (length t ≤ m)))
  pub refused : IfErr result (λ e. IsStill S s s' × ((e ≡ OutOfMemory) ⊎ (left ≡ Err e)))
