-- The trees that laying makes, and the objects of a call's hand.
use Rattle.std.specs.Prelude.{◌≡◌, ◌⊎◌, Contains, List, Some, ⊤}
use Rattle.git_objects.specs.Paths.{Bytes, Path}
use Rattle.git_objects.specs.Trees.{Leaf, Flat, IsTree, at, under}
use Rattle.object_store.specs.Growth.{IsClash}
use Rattle.object_store.specs.Hands.{IsComponentOf, IsLeafOf, IsTreeMade, tree_object}
use Rattle.object_store.specs.Objects.{Object}
use Rattle.filter_text.specs.Filters.{Filter, Filters, nop, sub, onto, dir, file, exclude, join, chain, workspace, no_more, more}
use Rattle.git_objects.specs.declared.name.Name.{Name}
use Rattle.filter_unapply.specs.Blocks.{IsLeast}
use Rattle.filter_unapply.specs.Laying.{Laid, NotHeld as NotHeldPath, Blocked as BlockedPath}
use Rattle.filter_unapply.specs.Parts.{IsAmong, IsBlockIn}
use Rattle.filter_unapply.specs.declared.fault.LayFault.{LayFault}
use Rattle.filter_unapply.specs.declared.fault.LayFault.TheVariants.{NotHeld, Blocked, Collision, OutOfMemory}

-- ---- the hand of a call

-- a component of a path of a filter
abbrev mutual
  pub IsNamedIn : Filter → Bytes → Type 0
  IsNamedIn nop c = ⊥
  IsNamedIn (sub a) c = Contains a c
  IsNamedIn (onto a) c = Contains a c
  IsNamedIn (dir a) c = Contains a c
  IsNamedIn (file a) c = Contains a c
  IsNamedIn (exclude f) c = IsNamedIn f c
  IsNamedIn (join fs) c = IsNamedInAny fs c
  IsNamedIn (chain fs) c = IsNamedInAny fs c
  IsNamedIn (workspace a) c = Contains a c

  -- or of one of these filters
  pub IsNamedInAny : Filters → Bytes → Type 0
  IsNamedInAny no_more c = ⊥
  IsNamedInAny (more f fs) c = IsNamedIn f c ⊎ IsNamedInAny fs c

-- a leaf of one of two trees
abbrev pub IsLeafOfTwo : Flat → Flat → Leaf → Type 0
IsLeafOfTwo t n x = IsLeafOf t x ⊎ IsLeafOf n x

-- a component of a path of one of two trees, or of a filter
abbrev pub IsComponentOfTwo : Filter → Flat → Flat → Bytes → Type 0
IsComponentOfTwo f t n c = IsComponentOf t c ⊎ (IsComponentOf n c ⊎ IsNamedIn f c)

-- a tree of such leaves, and of paths of such components
abbrev pub IsLaidMade : Filter → Flat → Flat → Object → Type 0
IsLaidMade f t n = IsTreeMade (IsLeafOfTwo t n) (IsComponentOfTwo f t n)

-- the fault tells the refusal, or another object has the name of one of the hand; or there is no memory
abbrev pub IsFaultBy : Laid → (Object → Type 0) → List Object → LayFault → Type 0
IsFaultBy l made S (NotHeld q) = l ≡ NotHeldPath q
IsFaultBy l made S (Blocked p q) = l ≡ BlockedPath p q
IsFaultBy l made S (Collision n) = IsClash made S n.0
IsFaultBy l made S OutOfMemory = ⊤

-- ---- the directories of a tree whose leaves are known

-- a leaf of this tree
abbrev pub IsIn : Flat → Path → Leaf → Type 0
IsIn t p x = at t p ≡ Some x

-- the object of a directory of a tree whose leaves are all known
pub record IsMadeOf (known : Path → Leaf → Type 0) (o : Object) : Type 0 where
  pub tree : Flat
  pub above : Path
  pub is_tree : IsTree tree
  pub all_known : (p : Path) (x : Leaf) → at tree p ≡ Some x → known p x
  pub is_object : o ≡ tree_object (under tree above)

-- another object has the name of such an object; or there is no memory
abbrev pub IsFaultOf : (Object → Type 0) → List Object → LayFault → Type 0
IsFaultOf made S (NotHeld q) = ⊥
IsFaultOf made S (Blocked p q) = ⊥
IsFaultOf made S (Collision n) = IsClash made S n.0
IsFaultOf made S OutOfMemory = ⊤

-- the first block of a tree and parts, or another object has the name of a directory of them; or there is no memory
abbrev pub IsPutFault : List Object → Name → List Name → List Object → LayFault → Type 0
IsPutFault S k ns R (NotHeld q) = ⊥
IsPutFault S k ns R (Blocked p q) = IsLeast (IsBlockIn S k ns) (Some (p, q))
IsPutFault S k ns R (Collision n) = IsClash (IsMadeOf (IsAmong S k ns)) R n.0
IsPutFault S k ns R OutOfMemory = ⊤
