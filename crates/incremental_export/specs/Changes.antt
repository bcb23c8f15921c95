-- What turns one tree into another: paths that are deleted, and leaves that are put.
use Rattle.std.specs.Prelude.{◌≡◌, Bool, false, not, List, [], ◌∷◌, filter, map}
use Rattle.std.specs.Option.{is_none, option_map_or}
use Rattle.git_objects.specs.Paths.{Path}
use Rattle.git_objects.specs.Trees.{Flat, IsTree, Leaf, LeafNode, at, put, remove, same_leaf}

-- the paths of a that b doesn't have, in path order
abbrev pub deleted : Flat → Flat → List Path
deleted a b = map (λ e. e.0) (filter (λ e. is_none (at b e.0)) a)

-- whether a has this leaf at this path
abbrev pub stands_in : Flat → Path × Leaf → Bool
stands_in a e = option_map_or (same_leaf e.1) (at a e.0) false

-- the leaves of b that don't stand so in a, in path order
abbrev pub changed : Flat → Flat → Flat
changed a b = filter (λ e. not (stands_in a e)) b

-- ---- the tree behind such changes

-- these paths are removed, one after another
abbrev pub without_all : List Path → Flat → Flat
without_all [] t = t
without_all (p ∷ ps) t = without_all ps (remove t p)

-- these leaves are put, one after another
abbrev pub with_all : Flat → Flat → Flat
with_all [] t = t
with_all (e ∷ es) t = with_all es (put t e.0 (LeafNode e.1))

-- The changes from a tree to another one turn it into that: first all paths are removed that are gone, and then what is new or another is
-- put.
abbrev pub ChangingLaw : Type 0
ChangingLaw = (a b : Flat) → IsTree a → IsTree b → with_all (changed a b) (without_all (deleted a b) a) ≡ b
