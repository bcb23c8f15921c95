-- Two trees read together.
use Rattle.std.specs.Prelude.{[], ◌∷◌, ◌++◌, Option, Some, None}
use Rattle.git_objects.specs.Paths.{Path}
use Rattle.git_objects.specs.Trees.{Flat}

-- two paths behind a path
abbrev pub pair_behind : Path → Path × Path → Path × Path
pair_behind p x = (p ++ x.0, p ++ x.1)

-- the first path of a map, behind a path
abbrev pub first_behind : Path → Flat → Option Path
first_behind p [] = None
first_behind p (e ∷ t) = Some (p ++ e.0)
