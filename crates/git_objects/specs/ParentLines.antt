-- The names in a commit's lines of parents, by their places: each line has 48 bytes.
use Rattle.std.specs.Prelude.{ℕ, zero, suc, List, [], ◌∷◌, take, drop, Option, unwrap_or}
use Rattle.std.specs.Option.{option_map}
use Rattle.git_objects.specs.Paths.{Bytes}
use Rattle.git_objects.specs.Commits.{Letter}
use Rattle.git_objects.specs.CommitBodies.{digits_name}

-- the name in the line that begins these bytes; no bytes where there is none
abbrev pub parent_name : Bytes → Bytes
parent_name b = unwrap_or (digits_name (take 40 (drop 7 b))) []

-- the names in so many lines
abbrev pub parents_at : ℕ → Bytes → List Bytes
parents_at zero b = []
parents_at (suc n) b = parent_name b ∷ parents_at n (drop 48 b)

abbrev pub with_parents : List Bytes → Option Letter → Option (List Bytes × Letter)
with_parents ps o = option_map (λ l. (ps, l)) o
