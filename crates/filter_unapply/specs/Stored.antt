-- What is laid, over the trees of a store.
use Rattle.std.specs.Prelude.{◌≡◌, ◌++◌, List, [], ◌∷◌, Option, Some, None}
use Rattle.git_objects.specs.Paths.{Bytes, Path}
use Rattle.git_objects.specs.Trees.{Leaf, Flat, at}
use Rattle.git_objects.specs.declared.name.Name.{Name}
use Rattle.object_store.specs.Objects.{Object}
use Rattle.path_trees.specs.Made.{IsOnWay, IsCollision}
use Rattle.object_store.specs.Unfolding.{StandsFor}
use Rattle.filter_unapply.specs.Laying.{Laid, NotHeld, Blocked, LaidTree}
use Rattle.path_trees.specs.declared.found.TreeFault.{TreeFault}
use Rattle.path_trees.specs.declared.found.TreeFault.TheVariants.{Collision as TreeCollision, OutOfMemory as TreeOutOfMemory}
use Rattle.filter_unapply.specs.declared.fault.LayFault.{LayFault}
use Rattle.filter_unapply.specs.declared.fault.LayFault.TheVariants.{NotHeld as NotHeldFault, Blocked as BlockedFault, Collision, OutOfMemory}

-- there is a tree, and the name stands for it
abbrev pub IsLaidTree : List Object → Laid → Name → Type 0
IsLaidTree S (LaidTree u) n = StandsFor S n.0 u
IsLaidTree S (NotHeld q) n = ⊥
IsLaidTree S (Blocked p q) n = ⊥

-- the bodies that are taken in: where there is a tree, of its directories on the way to the place
abbrev pub IsLaidBody : Laid → Path → Bytes → Type 0
IsLaidBody (LaidTree u) a b = IsOnWay u a b
IsLaidBody (NotHeld q) a b = ⊥
IsLaidBody (Blocked p q) a b = ⊥

-- the fault tells the refusal, or another object has the name of such a body
abbrev pub IsLayFault : Laid → Path → List Object → LayFault → Type 0
IsLayFault l a S (NotHeldFault q) = l ≡ NotHeld q
IsLayFault l a S (BlockedFault p q) = l ≡ Blocked p q
IsLayFault l a S (Collision n) = IsCollision (IsLaidBody l a) S n.0
IsLayFault l a S OutOfMemory = Unit

-- an edit's fault
abbrev pub fault_of : TreeFault → LayFault
fault_of (TreeCollision n) = Collision n
fault_of TreeOutOfMemory = OutOfMemory

-- ---- what the code asks

-- the first path of a tree
abbrev pub first_of : Flat → Option Path
first_of [] = None
first_of (e ∷ t) = Some e.0

-- a leaf on the way to a path, the path itself included
pub record IsInWay (t : Flat) (p front : Path) : Type 0 where
  pub rest : Path
  pub path : front ++ rest ≡ p
  pub leaf : Leaf
  pub stands : at t front ≡ Some leaf

abbrev pub IsLeafInWay : Flat → Path → Option Path → Type 0
IsLeafInWay t p None = (q r : Path) → q ++ r ≡ p → at t q ≡ None
IsLeafInWay t p (Some q) = IsInWay t p q
