-- What some of the entries of a decision list show of a tree.
use Rattle.std.specs.Prelude.{ℕ, Bool, not, ◌&&◌, if◌then◌else◌, List, [], Option, Some, None, take}
use Rattle.git_objects.specs.Paths.{Path}
use Rattle.git_objects.specs.Trees.{Flat}
use Rattle.git_objects.specs.declared.name.Name.{Name}
use Rattle.object_store.specs.Objects.{Object}
use Rattle.object_store.specs.Unfolding.{flat}
use Rattle.decision_lists.specs.Entries.{Entry}
use Rattle.decision_lists.specs.Cells.{free_in}
use Rattle.filter_text.specs.Filters.{Filter}
use Rattle.filter_routes.specs.Lenses.{Lens, seen_through}
use Rattle.filter_routes.specs.Origins.{lens_of}

-- whether one of the entries from this place up to the other decides for the path
abbrev pub between : List Entry → ℕ → ℕ → Path → Bool
between es first last p = free_in (take first es) p && not (free_in (take last es) p)

-- the path, where it passes the test
abbrev pub passed : (Path → Bool) → Option Path → Option Path
passed test None = None
passed test (Some p) = (if test p then Some p else None)

-- a lens on the paths that pass the test
abbrev pub restricted : (Path → Bool) → Lens → Lens
restricted test f = record { image = λ p. (if test p then f.image p else None); origin = λ q. passed test (f.origin q) }

-- what a filter shows of a tree by these entries of its list
abbrev pub seen_between : Filter → List Entry → ℕ → ℕ → Flat → Flat
seen_between f es first last t = seen_through (restricted (between es first last) (lens_of f)) t

-- the map of a tree; none has no path
abbrev pub map_of : List Object → Option Name → Flat
map_of S None = []
map_of S (Some n) = flat S n.0
