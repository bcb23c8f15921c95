-- Where the originals of projected and of pushed commits stand in a graph.
use Rattle.std.specs.Prelude.{ℕ, if◌then◌else◌, is_some, List, [], ◌∷◌, ◌++◌, map, Option, Some, None}
use Rattle.std.specs.Option.{option_map, option_or}
use Rattle.git_objects.specs.Paths.{Bytes, same_bytes}
use Rattle.git_objects.specs.declared.name.Name.{Name}
use Rattle.history_ground.specs.Origins.{Firsts, first_of}

-- pushed commits by their names, each with the place of its original
abbrev pub Places : Type 0
Places = List (Bytes × ℕ)

abbrev pub place_values : List (Name × ℕ) → Places
place_values es = map (λ e. (e.0.0, e.1)) es

-- the place of the original of the commit of that name
abbrev pub place_at : Bytes → Places → Option ℕ
place_at n [] = None
place_at n (e ∷ es) = if same_bytes n e.0 then Some e.1 else place_at n es

-- with a commit behind, where none of its name is there
abbrev pub with_place : Places → Bytes → ℕ → Places
with_place es n p = if is_some (place_at n es) then es else es ++ (n, p) ∷ []

-- the place of the first commit with this projection; and where there is none, of the original of the commit that was pushed
abbrev pub origin_in : Firsts → Places → Bytes → Option ℕ
origin_in os es n = option_or (option_map (λ x. x.place) (first_of n os)) (place_at n es)
