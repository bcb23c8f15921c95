-- Decision lists over cones of paths: the first cone that has a path decides.
use Rattle.std.specs.Prelude.{List, [], ◌∷◌, ◌++◌, Option, Some, None, Bool, true, false}
use Rattle.git_objects.specs.Paths.{Path}
use Rattle.decision_lists.specs.Fronts.{strip, proper, whole}

-- the one path s, or all that lies properly below s
pub data Cone : Type 0 where
  at : Path → Cone
  below : Path → Cone

abbrev pub base : Cone → Path
base (at s) = s
base (below s) = s

abbrev pub cone_of : Bool → Path → Cone
cone_of true s = at s
cone_of false s = below s

-- the rest of p behind the cone's base, where the cone has p
abbrev pub tail : Cone → Path → Option Path
tail (at s) p = whole (strip s p)
tail (below s) p = proper (strip s p)

-- a cone, and the target that takes the place of its base, or none
abbrev pub Entry : Type 0
Entry = Cone × Option Path

abbrev pub decide : Option Path → Option Path → Option Path → Option Path
decide None t other = other
decide (Some r) None other = None
decide (Some r) (Some t) other = Some (t ++ r)

-- what a list of entries does with p; d where no cone has it
abbrev pub run : Option Path → List Entry → Path → Option Path
run d [] p = d
run d (e ∷ es) p = decide (tail e.0 p) e.1 (run d es p)
