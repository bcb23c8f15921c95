-- The way back of one route.
use Rattle.std.specs.Prelude.{◌≡◌, ℕ, List, [], ◌∷◌, Option, Some, None, map, take, slice_get}
use Rattle.git_objects.specs.Paths.{Path}
use Rattle.decision_lists.specs.Entries.{Cone, Entry, run}
use Rattle.decision_lists.specs.Cells.{Cell, cells_at, origin}
use Rattle.decision_lists.specs.Operations.{heads}

-- the cell of an entry behind these cones, if it has a target
abbrev pub cells_of : Option Entry → List Cone → List Cell
cells_of None hs = []
cells_of (Some e) hs = cells_at e.0 e.1 hs []

-- the cell of the entry at a place, if it has a target
abbrev pub route_cells : List Entry → ℕ → List Cell
route_cells es n = cells_of (slice_get es n) (heads (take n es) [])

-- the list gives each image of the cells its path, and nothing to what is no image
abbrev pub IsWayBack : List Entry → List Cell → Type 0
IsWayBack es ks = (q : Path) → run None es q ≡ origin ks q

-- the same cones without targets
abbrev pub deads : List Entry → List Entry
deads es = map (λ e. (e.0, None)) es
