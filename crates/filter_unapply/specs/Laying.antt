-- A tree laid back into the one that it was shown of.
use Rattle.std.specs.Prelude.{Bool, false, true, cond, not, ◌&&◌, [], ◌∷◌, ◌++◌, Option, Some, None, filter, find, is_some}
use Rattle.std.specs.Option.{is_none, option_map, option_and_then, option_map_or}
use Rattle.git_objects.specs.Paths.{Path, comparable, same_path}
use Rattle.git_objects.specs.Trees.{Leaf, Flat, at, rest_below, same_leaf}
use Rattle.filter_text.specs.Filters.{Filter}
use Rattle.filter_routes.specs.Images.{image}
use Rattle.filter_routes.specs.Lenses.{Lens, carried}
use Rattle.filter_routes.specs.Origins.{lens_of}
use Rattle.workspace.specs.Workspaces.{next}

-- the filter `:/a`: each path below a as its rest
abbrev pub below : Path → Lens
below a = record { image = rest_below a; origin = λ q. Some (a ++ q) }

-- the leaf of each path without an image
abbrev pub hidden : Lens → Flat → Flat
hidden f t = filter (λ e. is_none (f.image e.0)) t

-- these, and the leaf of each path of n at its origin. Two of the paths may be comparable.
abbrev pub pre : Lens → Flat → Flat → Flat
pre f t n = carried f.origin n (hidden f t)

-- the first path that passes the test
abbrev pub first_path : (Path → Bool) → Flat → Option Path
first_path test [] = None
first_path test (e ∷ t) = cond (test e.0) (Some e.0) (first_path test t)

-- the first path that no path is shown as
abbrev pub first_lost : Lens → Flat → Option Path
first_lost f n = first_path (λ q. is_none (f.origin q)) n

-- whether q is comparable with p, and not p itself
abbrev pub is_other : Path → Path → Bool
is_other p q = comparable p q && not (same_path p q)

-- Whether p came from what is laid, which is where it has an image, and another path of t is comparable with it.
abbrev pub is_blocked : Lens → Flat → Path → Bool
is_blocked f t p = is_some (f.image p) && is_some (first_path (is_other p) t)

-- the first such path, and the first other one that it is comparable with
abbrev pub first_blocked : Lens → Flat → Option (Path × Path)
first_blocked f t = option_and_then (λ p. option_map (λ q. (p, q)) (first_path (is_other p) t)) (first_path (is_blocked f t) t)

-- a refusal, or the tree
pub data Laid : Type 0 where
  -- no path is shown as this one
  NotHeld : Path → Laid
  -- the first path has no place beside the second
  Blocked : Path → Path → Laid
  LaidTree : Flat → Laid

-- the first path without an origin, else the first blocked path and what blocks it, else the tree
abbrev pub laid_from : Option Path → Option (Path × Path) → Flat → Laid
laid_from (Some q) b u = NotHeld q
laid_from None (Some b) u = Blocked b.0 b.1
laid_from None None u = LaidTree u

-- n laid into t: in the place of all that the lens shows of t
abbrev pub laid_through : Lens → Flat → Flat → Laid
laid_through f t n = laid_from (first_lost f n) (first_blocked f (pre f t n)) (pre f t n)

-- ---- laying through a filter

-- n laid into t, through the filter that n itself asks for
abbrev pub laid : Filter → Flat → Flat → Laid
laid f t n = laid_through (lens_of (next f t n)) t n

-- whether n has another leaf at q than x, or none there
abbrev pub differs_at : Flat → Leaf → Path → Bool
differs_at n x q = option_map_or (λ y. not (same_leaf x y)) (at n q) true

-- whether r hides a leaf that r2 shows, and n hasn't this leaf where r2 shows it
abbrev pub is_unseen : Filter → Filter → Flat → Path × Leaf → Bool
is_unseen r r2 n e = is_none (image r e.0) && option_map_or (differs_at n e.1) (image r2 e.0) false

-- the first path of t that r2 shows and r doesn't, and that isn't pushed as it stands
abbrev pub unseen : Filter → Filter → Flat → Flat → Option Path
unseen r r2 t n = option_map (λ e. e.0) (find (is_unseen r r2 n) t)
