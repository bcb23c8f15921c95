-- Where the cells of a decision list take a path, and what of a pushed tree comes from them.
use Rattle.std.specs.Prelude.{◌≡◌, ◌⊎◌, if◌then◌else◌, filter, is_none, List, [], ◌∷◌, Option, Some, None}
use Rattle.std.specs.Option.{option_and_then}
use Rattle.git_objects.specs.Paths.{Path}
use Rattle.git_objects.specs.Trees.{Leaf, Flat, at}
use Rattle.decision_lists.specs.Entries.{Entry, decide, tail}
use Rattle.decision_lists.specs.Fronts.{or_else}
use Rattle.decision_lists.specs.Cells.{Cell, cells, is_free, origin}

-- the image of a path that the cell has
abbrev pub image_by : Cell → Path → Option Path
image_by k p = if is_free k.2 p then decide (tail k.0 p) (Some k.1) None else None

-- the image by the first cell that has the path
abbrev pub forward : List Cell → Path → Option Path
forward [] p = None
forward (k ∷ ks) p = or_else (image_by k p) (forward ks p)

-- the leaf that a path takes from a pushed tree by these cells
abbrev pub taken : List Cell → Flat → Path → Option Leaf
taken ks n p = option_and_then (at n) (forward ks p)

-- the leaves of a pushed tree that come from none of these cells
abbrev pub unplaced : List Cell → Flat → Flat
unplaced ks n = filter (λ e. is_none (origin ks e.0)) n

-- a leaf of the pushed tree, at its own path or at one that takes it by these cells
abbrev pub IsTakenOrIn : List Cell → Flat → Path → Leaf → Type 0
IsTakenOrIn ks n p x = (at n p ≡ Some x) ⊎ (taken ks n p ≡ Some x)

-- a leaf of a tree, or one that a pushed tree has or gives by the list's cells
abbrev pub IsOfBoth : List Entry → Flat → Flat → Path → Leaf → Type 0
IsOfBoth es t n p x = (at t p ≡ Some x) ⊎ IsTakenOrIn (cells [] es) n p x
