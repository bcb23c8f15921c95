-- Decision lists of which no entry is hidden, and whose paths are made of components.
use Rattle.std.specs.Prelude.{◌≡◌, List, [], ◌∷◌, Option, Some, None, true, ⊤}
use Rattle.std.specs.List.{list_all}
use Rattle.std.specs.Borrow.{Bor}
use Rattle.git_objects.specs.Paths.{Path, is_component, is_path}
use Rattle.decision_lists.specs.Entries.{Cone, Entry, at, below}
use Rattle.decision_lists.specs.Fronts.{proper}
use Rattle.decision_lists.specs.Operations.{alive}

-- a list that is not empty
abbrev pub Full : Path → Type 0
Full p = proper (Some p) ≡ Some p

-- all are components
abbrev pub Valid : Path → Type 0
Valid p = list_all is_component p ≡ true

abbrev pub IsPath : Path → Type 0
IsPath p = is_path p ≡ true

-- a single path is a path, and what lies below lies below components
abbrev pub Solid : Cone → Type 0
Solid (at s) = IsPath s
Solid (below s) = Valid s

-- a target of components
abbrev pub Aimed : Option Path → Type 0
Aimed None = ⊤
Aimed (Some t) = Valid t

abbrev pub Fine : Entry → Type 0
Fine e = Solid e.0 × Aimed e.1

-- no entry is hidden by those before it, nor by one of these cones
abbrev pub Thin : List Cone → List Entry → Type 0
Thin hs [] = ⊤
Thin hs (e ∷ es) = (alive hs e.0 ≡ true) × Thin (e.0 ∷ hs) es

-- what a borrowed path holds
abbrev pub behind : Option (Bor Path) → Option Path
behind None = None
behind (Some b) = Some b.now

-- one part, or none
abbrev pub part_of : Option Entry → List Entry
part_of None = []
part_of (Some e) = e ∷ []
