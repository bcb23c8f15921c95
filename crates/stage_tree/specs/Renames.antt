-- Nodes moved from one path to another.
use Rattle.std.specs.Prelude.{◌≡◌, ℕ, ◌+◌, ◌≤◌, ◌⊎◌, true, false, List, [], ◌∷◌, ◌++◌, length, Option, Some, replicate, OnOk, IfErr, IsOkAnd, Result, Ok, Err}
use Rattle.git_objects.specs.Paths.{Bytes, Path, comparable}
use Rattle.git_objects.specs.Trees.{Flat, IsTree, Node as FlatNode, at, put, rests, standing}
use Rattle.git_objects.specs.Results.{◌>>=◌, or_refuse}
use Rattle.git_objects.specs.declared.mode.Mode.TheVariants.{Module}
use Rattle.object_store.specs.Objects.{Object}
use Rattle.path_trees.specs.Standing.{node}
use Rattle.path_trees.specs.declared.found.Found.{Found}
use Rattle.stage_tree.specs.declared.fault.StageFault.{StageFault}
use Rattle.stage_tree.specs.declared.fault.StageFault.TheVariants.{NoSource, OutOfMemory}
use Rattle.stage_nodes.specs.declared.nodes.Nodes.{Nodes}
use Rattle.stage_nodes.specs.declared.nodes.Content.{Content}
use Rattle.stage_nodes.specs.declared.nodes.Content.TheVariants.{Open}
use Rattle.stage_nodes.specs.declared.nodes.Link.{Link}
use Rattle.stage_nodes.specs.Forests.{Forest, Nil, Bin, count, Reads}
use Rattle.stage_nodes.specs.Pools.{IsKept, IsPool, StayBut, inside, spare}
use Rattle.stage_nodes.specs.Branches.{Stands}
use Rattle.stage_nodes.specs.Walks.{is_clear}
use Rattle.stage_tree.specs.Edits.{within_paths}
use Rattle.stage_tree.specs.Standings.{Holds, IsNodeAt}
use Rattle.stage_nodes.specs.Ways.{IsOpen, IsPlaceOf, IsStill, kids_of}

-- ---- a branch with children at its end

abbrev pub trunk_content : Path → Content → Content
trunk_content [] x = x
trunk_content (d ∷ p) x = Open

-- a node for each component, of which the last has this content and these children
abbrev pub trunk : List ℕ → Path → Content → Forest → Forest
trunk ks [] x l = l
trunk [] (c ∷ p) x l = Nil
trunk (k ∷ ks) (c ∷ p) x l = Bin k c (trunk_content p x) (trunk ks p x l) Nil

abbrev pub last_of : ℕ → List ℕ → ℕ
last_of k [] = k
last_of k (i ∷ ks) = last_of i ks

-- they are there without the children, and nothing reaches the first
pub record IsTrunk (s s' : Nodes) (p : Path) (x : Content) (e k : ℕ) : Type 0 where
  pub below : List ℕ
  pub long : length below + 1 ≡ length p
  pub last : last_of k below ≡ e
  pub reads : Reads s'.names.items s'.cells.items (Some k) (trunk (k ∷ below) p x Nil)
  pub pool : IsPool s'
  pub old_pool : IsPool s
  pub names : IsKept s.names.items s'.names.items
  pub counts : (m : ℕ) → count m (trunk (k ∷ below) p x Nil) + count m (spare s') + inside s m ≡ count m (spare s) + inside s' m
  pub stay : StayBut s s' (λ m. count m (spare s))

-- they are there, with the nodes from a number on as the children
pub record IsGraft (s s' : Nodes) (p : Path) (x : Content) (j : Option ℕ) (k : ℕ) : Type 0 where
  pub below : List ℕ
  pub long : length below + 1 ≡ length p
  pub reads : (l : Forest) → Reads s.names.items s.cells.items j l → ((m : ℕ) → count m l + count m (spare s) ≤ inside s m) → Reads s'.names.items s'.cells.items (Some k) (trunk (k ∷ below) p x l)
  pub pool : IsPool s'
  pub names : IsKept s.names.items s'.names.items
  pub counts : (m : ℕ) → count m (trunk (k ∷ below) p x Nil) + count m (spare s') + inside s m ≡ count m (spare s) + inside s' m
  pub stay : StayBut s s' (λ m. count m (spare s))

-- ---- a node taken to another path

-- what stands at a node while its own content is on its way: a module, which every store holds
abbrev pub stand_in : Found
stand_in = record { mode = Module; name = record { 0 = replicate 20 0 } }

-- the node may be taken to a path: it has a place, and the way to the path is clear
pub record CanMove (s : Nodes) (k : ℕ) (p : Path) : Type 0 where
  pub objects : List Object
  pub opened : IsOpen objects s
  pub path : Path
  pub component : Bytes
  pub link : Link
  pub place : IsPlaceOf objects s path component link (Some k)
  pub clear : is_clear (kids_of s) p ≡ true

-- A leaf stands at the node, and what stood there is put at the path.
pub record IsMoved (s s' : Nodes) (k : ℕ) (p : Path) (h : CanMove s k p) : Type 0 where
  pub opened : IsOpen h.objects s'
  pub puts : (t : Flat) → Stands h.objects s t → (n : FlatNode) → ((r : Path) → at (rests n) r ≡ at t (h.path ++ h.component ∷ r)) → Stands h.objects s' (put (put t (h.path ++ h.component ∷ []) (node h.objects stand_in)) p n)
  pub clear : (q : Path) → comparable p q ≡ false → is_clear (kids_of s) q ≡ true → is_clear (kids_of s') q ≡ true

-- ---- what is moved or copied

-- what stands at s, if it may be put at p
abbrev pub sourced : Flat → Path → Path → Result FlatNode StageFault
sourced t s p = or_refuse NoSource (standing t s) >>= λ x. within_paths p x >>= λ _. Ok x

-- The nodes stand for what they stood for, and the ways to both paths are clear. What stands at the first, at the node
-- of this number, may be put at the second.
pub record IsSource (S : List Object) (s s' : Nodes) (p q : Path) (k : ℕ) : Type 0 where
  pub still : IsStill S s s'
  pub clear : is_clear (kids_of s') p ≡ true
  pub target_clear : is_clear (kids_of s') q ≡ true
  pub at : IsNodeAt S s' p k
  pub fits : (t : Flat) (n : FlatNode) → Holds S s' at.place t n → within_paths q n ≡ Ok tt

-- the nodes stand for what they stood for, and what stands at the first path may not, or there was no memory
pub record IsNoSource (S : List Object) (s s' : Nodes) (p q : Path) (e : StageFault) : Type 0 where
  pub still : IsStill S s s'
  pub refused : (t : Flat) → IsTree t → Stands S s t → (e ≡ OutOfMemory) ⊎ (sourced t p q ≡ Err e)

-- ---- an edit of the nodes

-- It was made: it isn't refused, and the nodes stand for the tree that is left. Or it wasn't: it is refused so, or there
-- was no memory, and the nodes stand for what they stood for.
pub record IsEditedTo (S : List Object) (s s' : Nodes) (left : Result Flat StageFault) (result : Result (Unit {0}) StageFault) : Type 0 where
  pub done : OnOk result (IsOkAnd left (λ t. IsOpen S s' × Stands S s' t))
  pub refused : IfErr result (λ e. IsStill S s s' × ((e ≡ OutOfMemory) ⊎ (left ≡ Err e)))
