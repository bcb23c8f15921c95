-- What one entry of a decision list has of a tree.
use Rattle.std.specs.Prelude.{ℕ, zero, suc, Bool, true, false, not, ◌&&◌, List, [], ◌∷◌, ◌++◌, Option, Some, None, is_some, filter, slice_get}
use Rattle.git_objects.specs.Paths.{Path}
use Rattle.git_objects.specs.Trees.{Flat, Node, rests, standing}
use Rattle.path_trees.specs.Walked.{behind}
use Rattle.decision_lists.specs.Entries.{Cone, at, below, Entry, base, tail}
use Rattle.decision_lists.specs.Hits.{target_of}

-- whether the entry at i decides for the path: its cone has it, and no earlier one does
abbrev pub decides : List Entry → ℕ → Path → Bool
decides [] i p = false
decides (e ∷ es) zero p = is_some (tail e.0 p)
decides (e ∷ es) (suc i) p = not (is_some (tail e.0 p)) && decides es i p

abbrev pub base_in : Option Entry → Path
base_in None = []
base_in (Some e) = base e.0

-- all below a path, and no single one
abbrev pub is_wide : Cone → Bool
is_wide (at s) = false
is_wide (below s) = true

-- what stands at a place, by the rests of its paths; nothing, where nothing does
abbrev pub rests_of : Option Node → Flat
rests_of None = []
rests_of (Some n) = rests n

-- what the entry at i has of such rests: those that stand behind the entry's base in a path for which the entry decides
abbrev pub part_in : List Entry → ℕ → Flat → Flat
part_in es i u = filter (λ e. decides es i (base_in (slice_get es i) ++ e.0)) u

-- What the entry at i has of what stands at s, by the rests of the paths behind s. At its base this is what the entry
-- shows of a tree, and at its target what it has of a tree that is shown.
abbrev pub part_of : List Entry → ℕ → Path → Flat → Flat
part_of es i s t = part_in es i (rests_of (standing t s))

-- whether it is all below a path, and no single one
abbrev pub is_below : Option Entry → Bool
is_below None = false
is_below (Some e) = is_wide e.0

-- this behind the target; nothing, where there is none
abbrev pub put_behind : Option Path → Flat → Flat
put_behind None t = []
put_behind (Some a) t = behind a t

-- what the entry at i shows where this stands at its base
abbrev pub routed : List Entry → ℕ → Flat → Flat
routed es i u = put_behind (target_of (slice_get es i)) (part_in es i u)
