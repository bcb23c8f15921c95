-- The path that a filter shows as a path: the inverse of the image.
use Rattle.std.specs.Prelude.{◌≡◌, true, ◌++◌, Option, Some, None}
use Rattle.git_objects.specs.Paths.{Path, is_path}
use Rattle.filter_text.specs.Filters.{Filter, Filters, nop, sub, onto, dir, file, exclude, join, chain, workspace, no_more, more, has_paths}
use Rattle.decision_lists.specs.Fronts.{strip, proper, whole, kept, left_out, or_else, and_then}
use Rattle.filter_routes.specs.Images.{image}
use Rattle.filter_routes.specs.Soundness.{IsSound}
use Rattle.filter_routes.specs.Tables.{IsOrigin}
use Rattle.filter_routes.specs.Lenses.{Lens, IsLens}

-- The path whose image is q, or none. What an exclude shows stays where it is. As in images, a workspace is read as the
-- paths below its place.
abbrev mutual
  pub origin : Filter → Path → Option Path
  origin nop q = Some q
  origin (sub a) q = Some (a ++ q)
  origin (onto a) q = proper (strip a q)
  origin (dir a) q = kept (proper (strip a q)) q
  origin (file a) q = kept (whole (strip a q)) q
  origin (exclude f) q = left_out (image f q) q
  origin (join fs) q = first_origin fs q
  origin (chain fs) q = back_through fs q
  origin (workspace a) q = Some (a ++ q)

  -- the origin that the first branch with one gives
  pub first_origin : Filters → Path → Option Path
  first_origin no_more q = None
  first_origin (more f fs) q = or_else (origin f q) (first_origin fs q)

  -- the last one first
  pub back_through : Filters → Path → Option Path
  back_through no_more q = Some q
  back_through (more f fs) q = and_then (back_through fs q) (origin f)

-- a filter as a lens
abbrev pub lens_of : Filter → Lens
lens_of f = record { image = image f; origin = origin f }

-- A sound filter is a lens, and the origin of a path is the one path with this image, or none where no path has it.
pub record LensLaw : Type 0 where
  pub lens : (f : Filter) → has_paths f ≡ true → IsSound f → IsLens (lens_of f)
  pub exact : (f : Filter) (q : Path) → has_paths f ≡ true → IsSound f → is_path q ≡ true → IsOrigin f q (origin f q)
