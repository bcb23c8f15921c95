-- The finite test for clashes of two decision lists, and the way back from an image.
use Rattle.std.specs.Prelude.{List, [], ◌∷◌, ◌++◌, Option, Some, None, Bool, true, false, not, ◌&&◌, ◌||◌, cond, is_some}
use Rattle.git_objects.specs.Paths.{Path}
use Rattle.decision_lists.specs.Fronts.{strip}
use Rattle.decision_lists.specs.Entries.{Cone, at, below, base, tail, Entry}
use Rattle.decision_lists.specs.Operations.{covers, alive}

-- a cone, the target in place of its base, and the holes
abbrev pub Cell : Type 0
Cell = Cone × Path × List Cone

abbrev pub cells_at : Cone → Option Path → List Cone → List Cell → List Cell
cells_at c None hs ks = ks
cells_at c (Some t) hs ks = (c, t, hs) ∷ ks

abbrev pub cells : List Cone → List Entry → List Cell
cells hs [] = []
cells hs (e ∷ es) = cells_at e.0 e.1 hs (cells (e.0 ∷ hs) es)

-- the finite test
abbrev pub touches : Path → List Cone → Path → Bool
touches s hs [] = alive hs (below s)
touches s hs (c ∷ v) = alive hs (at (s ++ c ∷ [])) || touches (s ++ c ∷ []) hs v

abbrev pub reaches_at : Cone → List Cone → Option Path → Bool
reaches_at c hs None = false
reaches_at (at s) hs (Some v) = true
reaches_at (below s) hs (Some v) = touches s hs v

abbrev pub reaches : Cell → Cell → Bool
reaches k l = reaches_at k.0 k.2 (strip k.1 l.1)

abbrev pub overlaps : Cell → Cell → Bool
overlaps k l = covers k.0 l.0 && alive k.2 l.0

abbrev pub clashes : Cell → Cell → Bool
clashes k l = (overlaps k l || overlaps l k) || (reaches k l || reaches l k)

abbrev pub any_right : Cell → List Cell → Bool
any_right k [] = false
any_right k (l ∷ ls) = clashes k l || any_right k ls

abbrev pub any_clash : List Cell → List Cell → Bool
any_clash [] ls = false
any_clash (k ∷ ks) ls = any_right k ls || any_clash ks ls

abbrev pub moved : Cone → Path → Cone
moved (at s) t = at t
moved (below s) t = below t

-- no cone of the list has p, as a test
abbrev pub is_free : List Cone → Path → Bool
is_free [] p = true
is_free (h ∷ hs) p = not (is_some (tail h p)) && is_free hs p

-- no entry's cone has p
abbrev pub free_in : List Entry → Path → Bool
free_in [] p = true
free_in (e ∷ es) p = not (is_some (tail e.0 p)) && free_in es p

abbrev pub origin_at : Path → Cell → Option Path → Option Path → Option Path
origin_at q k None other = other
origin_at q k (Some r) other = cond (is_free k.2 (base k.0 ++ r)) (Some (base k.0 ++ r)) other

abbrev pub origin : List Cell → Path → Option Path
origin [] q = None
origin (k ∷ ks) q = origin_at q k (tail (moved k.0 k.1) q) (origin ks q)
