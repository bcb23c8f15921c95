-- A part of a tree taken from one place to another.
use Rattle.std.specs.Prelude.{◌≡◌, ◌++◌, Bool, true, false, not, if◌then◌else◌, List, Option, Some, None}
use Rattle.std.specs.Option.{option_and_then}
use Rattle.git_objects.specs.Entries.{is_dir}
use Rattle.git_objects.specs.Paths.{Path, is_nil}
use Rattle.git_objects.specs.Trees.{Leaf, Flat, at, rests}
use Rattle.object_store.specs.Objects.{Object, has_child}
use Rattle.path_trees.specs.Standing.{node}
use Rattle.path_trees.specs.declared.found.Found.{Found}
use Rattle.decision_lists.specs.Entries.{cone_of, decide, tail}

-- the leaf at a path at or below `to`: the one that stands at the same rest behind `from`
abbrev pub moved : Bool → Path → Path → Flat → Path → Option Leaf
moved point from to u p = option_and_then (at u) (decide (tail (cone_of point to) p) (Some from) None)

-- ---- what the code asks

-- whether a rest is that of a single path, or one of those below
abbrev pub fits : Bool → Path → Bool
fits true r = is_nil r
fits false r = not (is_nil r)

-- what stands at an address: a leaf, or the directory of all below it
pub record IsHolding (S : List Object) (u : Flat) (point : Bool) (from : Path) (f : Found) : Type 0 where
  pub held : has_child S f.mode f.name.0 ≡ true
  pub kind : is_dir f.mode ≡ not point
  pub leaves : (r : Path) → at (rests (node S f)) r ≡ (if fits point r then at u (from ++ r) else None)

abbrev pub IsHeldAt : List Object → Flat → Bool → Path → Option Found → Type 0
IsHeldAt S u point from None = (r : Path) → fits point r ≡ true → at u (from ++ r) ≡ None
IsHeldAt S u point from (Some f) = IsHolding S u point from f
