-- Tables of routes.
use Rattle.std.specs.Prelude.{◌≡◌, ℕ, Option, Some, None, true, slice_get}
use Rattle.git_objects.specs.Paths.{Path, is_path}
use Rattle.decision_lists.specs.Hits.{target_of, source_of}
use Rattle.filter_text.specs.Filters.{Filter}
use Rattle.filter_text.specs.Shapes.{shape}
use Rattle.filter_routes.specs.Images.{image}
use Rattle.filter_routes.specs.Soundness.{IsSound}
use Rattle.filter_routes.specs.TableValues.{Table}

-- what a route puts in place of what it takes off, and the other way round
abbrev pub target : Table → ℕ → Option Path
target t n = target_of (slice_get t.routes n)

abbrev pub source : Table → ℕ → Option Path
source t n = source_of (slice_get t.routes n)

-- the path with this image, or none where no path has it
abbrev pub IsOrigin : Filter → Path → Option Path → Type 0
IsOrigin f q None = (p : Path) → is_path p ≡ true → image f p ≡ Some q → ⊥
IsOrigin f q (Some p) = (is_path p ≡ true) × (image f p ≡ Some q)

-- a table of the filter, which is sound
abbrev pub IsTableOf : Table → Filter → Type 0
IsTableOf t f = (shape t.filter ≡ f) × IsSound f
