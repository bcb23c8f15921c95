-- How a store holds its objects: the bodies one behind the other, and the place of each.
use Rattle.std.specs.Prelude.{◌≡◌, ◌+◌, ◌≤◌, ⊤, ℕ, Bool, true, not, ◌&&◌, ◌==◌, List, [], ◌∷◌, map, length, reverse}
use Rattle.std.specs.List.{slice_range}
use Rattle.git_objects.specs.Paths.{Bytes}
use Rattle.git_objects.specs.declared.kind.Kind.TheVariants.{Tree}
use Rattle.git_objects.specs.declared.name.Name.{Name}
use Rattle.object_store.specs.Objects.{Object, object_name, same_kind, IsStore}
use Rattle.object_store.specs.Unfolding.{flat}
use Rattle.object_store.specs.Sizes.{sizes}
use Rattle.object_store.specs.declared.shelf.Place.{Place}

-- the object at a place
abbrev pub placed : Bytes → Place → Object
placed arena p = record { kind = p.kind; body = slice_range arena p.at (p.at + p.len) }

-- whether a tree with a body stands there
abbrev pub is_full_tree : Place → Bool
is_full_tree p = same_kind Tree p.kind && not (p.len == 0)

-- the objects at these places, in order of arrival
abbrev pub arrived_objects : Bytes → List (Name × Place) → List Object
arrived_objects arena places = map (λ e. placed arena e.1) places

-- the objects at these places, the newest first
abbrev pub placed_objects : Bytes → List (Name × Place) → List Object
placed_objects arena places = reverse (arrived_objects arena places)

-- the place lies in the arena, and its key is its object's name
pub record IsPlaced (arena : Bytes) (e : Name × Place) : Type 0 where
  pub within : e.1.at + e.1.len ≤ length arena
  pub named : object_name (placed arena e.1) ≡ e.0.0

abbrev pub ArePlaced : Bytes → List (Name × Place) → Type 0
ArePlaced arena [] = Unit
ArePlaced arena (e ∷ es) = IsPlaced arena e × ArePlaced arena es

-- each place has the sizes of what its key stands for, which is no path unless it is a tree's
abbrev pub AreSized : List Object → List (Name × Place) → Type 0
AreSized S [] = Unit
AreSized S (e ∷ es) = (e.1.stats ≡ sizes (flat S e.0.0)) × AreSized S es

pub record HoldsStore (arena : Bytes) (places : List (Name × Place)) : Type 0 where
  pub placed : ArePlaced arena places
  pub store : IsStore (placed_objects arena places)
  pub sized : AreSized (placed_objects arena places) places

-- ---- a store that is filled

-- the objects, the piece that stands behind them in the arena, and whether it may still be written: no object was put since it began
pub record Intake : Type 0 where
  pub objects : List Object
  pub piece : Bytes
  pub is_open : Bool

-- each place ends at most there
abbrev pub AreBelow : ℕ → List (Name × Place) → Type 0
AreBelow end [] = ⊤
AreBelow end (e ∷ es) = (e.1.at + e.1.len ≤ end) × AreBelow end es

-- a store in the arena, and a place from which the piece stands, above all objects while the piece may be written
pub record HoldsIntake (arena : Bytes) (places : List (Name × Place)) (from : ℕ) (is_open : Bool) : Type 0 where
  pub store : HoldsStore arena places
  pub within : from ≤ length arena
  pub below : is_open ≡ true → AreBelow from places
