-- Walks to a path over nodes that are there, and the steps of making them.
use Rattle.std.specs.Prelude.{◌≡◌, ℕ, zero, suc, nat_lt, filter, take, ◌&&◌, ◌+◌, ◌≤◌, ◌⊎◌, Bool, true, not, cond, List, [], ◌∷◌, ◌++◌, length, slice_get, Option, Some, None}
use Rattle.std.specs.Option.{option_and_then}
use Rattle.git_objects.specs.Paths.{Bytes, Path, is_prefix, same_bytes}
use Rattle.git_objects.specs.Trees.{Flat, under}
use Rattle.git_objects.specs.Names.{tops}
use Rattle.git_objects.specs.Entries.{is_dir}
use Rattle.object_store.specs.Objects.{Object}
use Rattle.stage_nodes.specs.declared.nodes.Node.{Node}
use Rattle.stage_nodes.specs.declared.nodes.Nodes.{Nodes}
use Rattle.stage_nodes.specs.declared.nodes.Content.{Content}
use Rattle.stage_nodes.specs.declared.nodes.Content.TheVariants.{Held, Open}
use Rattle.stage_nodes.specs.declared.nodes.Link.{Link}
use Rattle.stage_nodes.specs.Forests.{Forest, Nil, Bin, Sound}
use Rattle.stage_nodes.specs.Directories.{IsDirectory}
use Rattle.stage_nodes.specs.Leaves.{is_held}
use Rattle.stage_nodes.specs.Branches.{Stands}
use Rattle.stage_nodes.specs.Ways.{IsBlocked, IsOpen, IsPlaceOf, IsStill, kids_of}

-- ---- ways without a stored directory

abbrev pub clear_below : Content → Bool → Bool
clear_below (Held f) rest = not (is_dir f.mode)
clear_below Open rest = rest

-- whether no stored directory stands above the last component of a path
abbrev pub is_clear : Forest → Path → Bool
is_clear Nil p = true
is_clear (Bin k e x l r) [] = true
is_clear (Bin k e x l r) (c ∷ []) = true
is_clear (Bin k e x l r) (c ∷ d ∷ p) = cond (same_bytes c e) (clear_below x (is_clear l (d ∷ p))) (is_clear r (c ∷ d ∷ p))

-- the nodes can be walked from the root on
pub record IsWalkable (s : Nodes) : Type 0 where
  pub objects : List Object
  pub directory : IsDirectory s 0 (kids_of s)
  pub sound : Sound (is_held objects) (kids_of s)

abbrev pub if_open : ℕ → Content → Option ℕ
if_open k Open = Some k
if_open k (Held f) = None

-- the number of a node, if it is a directory whose children are nodes
abbrev pub open_number : List Node → Option ℕ → Option ℕ
open_number ns None = None
open_number ns (Some k) = option_and_then (λ n. if_open k n.content) (slice_get ns k)

-- where a walk to a path ends
pub record IsStop (S : List Object) (s : Nodes) (p : Path) (level : ℕ) (link : Link) (child : Option ℕ) : Type 0 where
  pub component : Bytes
  pub before : Path
  pub behind : Path
  pub path : before ++ component ∷ behind ≡ p
  pub level_is : length before ≡ level
  pub place : IsPlaceOf S s before component link child
  pub ended : (behind ≡ []) ⊎ IsBlocked component place.rest

-- how many siblings there are
abbrev pub breadth : Forest → ℕ
breadth Nil = 0
breadth (Bin k c x l r) = breadth r + 1

-- the ways that were clear are clear
abbrev pub StaysClear : Nodes → Nodes → Type 0
StaysClear s s' = (q : Path) → is_clear (kids_of s) q ≡ true → is_clear (kids_of s') q ≡ true

-- the nodes stand for what they stood for, and the way to a path is clear
pub record IsCleared (S : List Object) (s s' : Nodes) (p : Path) : Type 0 where
  pub still : IsStill S s s'
  pub kept : StaysClear s s'
  pub clear : is_clear (kids_of s') p ≡ true

-- ---- a path removed without memory

-- the way to a path is clear
pub record CanPrune (s : Nodes) (p : Path) : Type 0 where
  pub objects : List Object
  pub opened : IsOpen objects s
  pub clear : is_clear (kids_of s) p ≡ true

-- ---- steps

-- the first beginnings of a path, the longest first
abbrev pub beginnings : Path → ℕ → List Path
beginnings p zero = []
beginnings p (suc n) = take n p ∷ beginnings p n

-- the directories above a path, of which the root's path is empty
abbrev pub above : Path → List Path
above p = beginnings p (length p)

abbrev pub is_above : Path → Path → Bool
is_above d p = is_prefix d p && nat_lt (length d) (length p)

abbrev pub beside : Path → List Path → List Path
beside p ds = filter (λ d. not (is_above d p)) ds

-- the directories above the one or the other path, each once
abbrev pub above_both : Path → Path → List Path
above_both p q = above p ++ beside p (above q)

-- how many entries a tree has in directories
abbrev pub entries_of : Flat → List Path → ℕ
entries_of t [] = 0
entries_of t (d ∷ ds) = length (tops (under t d)) + entries_of t ds

abbrev pub cost_at : Flat → Path → Path → ℕ
cost_at t z d = cond (is_above d z) 0 (length (tops (under t d)))

-- a node was entered with so many steps: none, where its path is above one that is clear
abbrev pub IsPaid : List Object → Nodes → Option ℕ → ℕ → ℕ → Type 0
IsPaid S s child before now = (q : Path) (c : Bytes) (link : Link) → IsPlaceOf S s q c link child → (t : Flat) → Stands S s t → (z : Path) → is_clear (kids_of s) z ≡ true → now ≤ before + cost_at t z (q ++ c ∷ [])

-- the way to a path was made clear with so many steps, one for each entry below the root's that became a node
abbrev pub IsWayPaid : List Object → Nodes → Path → ℕ → ℕ → Type 0
IsWayPaid S s p before now = (t : Flat) → Stands S s t → (z : Path) → is_clear (kids_of s) z ≡ true → now + entries_of t (beside z (beginnings p 1)) ≤ before + entries_of t (beside z (above p))
