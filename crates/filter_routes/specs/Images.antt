-- The image of one path under a filter.
use Rattle.std.specs.Prelude.{◌++◌, Option, Some, None}
use Rattle.git_objects.specs.Paths.{Path}
use Rattle.decision_lists.specs.Fronts.{strip, proper, whole, kept, left_out, or_else, and_then}
use Rattle.filter_text.specs.Filters.{Filter, Filters, nop, sub, onto, dir, file, exclude, join, chain, workspace, no_more, more}

-- The image of p, or none. A workspace is read as the paths below its place, which is how soundness reads it.
abbrev mutual
  pub image : Filter → Path → Option Path
  image nop p = Some p
  image (sub a) p = proper (strip a p)
  image (onto a) p = Some (a ++ p)
  image (dir a) p = kept (proper (strip a p)) p
  image (file a) p = kept (whole (strip a p)) p
  image (exclude f) p = left_out (image f p) p
  image (join fs) p = first fs p
  image (chain fs) p = through fs p
  image (workspace a) p = proper (strip a p)

  -- the image that the first branch with one gives
  pub first : Filters → Path → Option Path
  first no_more p = None
  first (more f fs) p = or_else (image f p) (first fs p)

  -- one after the other
  pub through : Filters → Path → Option Path
  through no_more p = Some p
  through (more f fs) p = and_then (image f p) (through fs)
