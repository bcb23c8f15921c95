-- How large stored trees are.
use Rattle.std.specs.Prelude.{ℕ, ◌+◌, cond, min, max, List, [], ◌∷◌, length, Option, Some, None}
use Rattle.git_objects.specs.Paths.{Bytes, text}
use Rattle.git_objects.specs.Trees.{Flat}
use Rattle.git_objects.specs.Names.{depth}
use Rattle.git_objects.specs.declared.kind.Kind.TheVariants.{Tree}
use Rattle.object_store.specs.Objects.{Object, has}
use Rattle.object_store.specs.Unfolding.{flat}
use Rattle.object_store.specs.declared.store.TreeStats.{TreeStats}

-- the bytes of the longest path
abbrev pub longest : Flat → ℕ
longest [] = 0
longest (e ∷ t) = max (length (text e.0)) (longest t)

-- a number, held at 4,294,967,295 where it is greater
abbrev pub held_number : ℕ → ℕ
held_number n = min n 4294967295

-- the leaves, the components of the deepest path, and the bytes of the longest
abbrev pub sizes : Flat → TreeStats
sizes t = record { files = held_number (length t); depth = held_number (depth t); longest = held_number (longest t) }

-- of a tree that is held
abbrev pub stats_of : List Object → Bytes → Option TreeStats
stats_of S n = cond (has Tree S n) (Some (sizes (flat S n))) None

-- ---- from parts

-- of a leaf at a component of that many bytes
abbrev pub leaf_sizes : ℕ → TreeStats
leaf_sizes c = record { files = 1; depth = 1; longest = held_number c }

-- of a tree with a path, behind a component of that many bytes and a slash
abbrev pub sizes_below : ℕ → TreeStats → TreeStats
sizes_below c s = record { files = s.files; depth = held_number (s.depth + 1); longest = held_number (c + 1 + s.longest) }

-- of two trees' paths together
abbrev pub sizes_joined : TreeStats → TreeStats → TreeStats
sizes_joined a b = record { files = held_number (a.files + b.files); depth = max a.depth b.depth; longest = max a.longest b.longest }
