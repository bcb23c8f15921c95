-- Fronts of paths, and choices among paths that may be missing.
use Rattle.std.specs.Prelude.{[], ◌∷◌, Option, Some, None, cond}
use Rattle.git_objects.specs.Paths.{Path, same_bytes}

-- what of p stands behind the front s
abbrev pub strip : Path → Path → Option Path
strip [] p = Some p
strip (c ∷ s) [] = None
strip (c ∷ s) (d ∷ p) = cond (same_bytes c d) (strip s p) None

-- a rest that is not empty
abbrev pub proper : Option Path → Option Path
proper None = None
proper (Some []) = None
proper (Some (c ∷ r)) = Some (c ∷ r)

-- a rest that is empty
abbrev pub whole : Option Path → Option Path
whole None = None
whole (Some []) = Some []
whole (Some (c ∷ r)) = None

-- p where there is something
abbrev pub kept : Option Path → Path → Option Path
kept None p = None
kept (Some q) p = Some p

-- p where there is nothing
abbrev pub left_out : Option Path → Path → Option Path
left_out None p = Some p
left_out (Some q) p = None

-- the first of two that is there
abbrev pub or_else : Option Path → Option Path → Option Path
or_else None o = o
or_else (Some q) o = Some q

-- what f makes of a path that is there
abbrev pub and_then : Option Path → (Path → Option Path) → Option Path
and_then None f = None
and_then (Some q) f = f q
