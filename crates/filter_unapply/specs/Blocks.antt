-- The least of pairs of paths.
use Rattle.std.specs.Prelude.{◌≡◌, false, List, [], ◌∷◌, if◌then◌else◌, Option, Some, None}
use Rattle.std.specs.declared.cmp.Ordering.{Ordering}
use Rattle.std.specs.Ordering.{is_lt}
use Rattle.std.specs.Cmp.Lexicographic.{slice_cmp}
use Rattle.git_objects.specs.Paths.{Path, path_cmp}
use Rattle.git_objects.specs.declared.name.Name.{Name}
use Rattle.object_store.specs.Objects.{Object}
use Rattle.object_store.specs.Unfolding.{flat}
use Rattle.path_trees.specs.Clashes.{clash}

-- by the first paths, and where they are the same by the second ones
abbrev pub pair_cmp : Path × Path → Path × Path → Ordering
pair_cmp x y = slice_cmp path_cmp (x.0 ∷ x.1 ∷ []) (y.0 ∷ y.1 ∷ [])

-- the first of two pairs that are there
abbrev pub lesser : Option (Path × Path) → Option (Path × Path) → Option (Path × Path)
lesser None o = o
lesser (Some x) None = Some x
lesser (Some x) (Some y) = if is_lt (pair_cmp y x) then Some y else Some x

-- the least pair of which this holds, or none where it holds of no pair
abbrev pub IsLeast : (Path → Path → Type 0) → Option (Path × Path) → Type 0
IsLeast H None = (p q : Path) → H p q → ⊥
IsLeast H (Some x) = H x.0 x.1 × ((p q : Path) → H p q → is_lt (pair_cmp (p, q) x) ≡ false)

-- the least of a pair and of the first clashes of a tree with each of these
abbrev pub with_clashes : List Object → Name → List Name → Option (Path × Path) → Option (Path × Path)
with_clashes S a [] least = least
with_clashes S a (n ∷ ns) least = with_clashes S a ns (lesser least (clash (flat S a.0) (flat S n.0)))
