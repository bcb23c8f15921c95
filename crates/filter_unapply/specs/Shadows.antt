-- Cones of which a filter shows nothing.
use Rattle.std.specs.Prelude.{⊤, ◌≡◌, Bool, false, true, not, ◌&&◌, ◌||◌, [], ◌∷◌}
use Rattle.std.specs.Prelude.{List, Option, Some, None, is_some}
use Rattle.git_objects.specs.Paths.{Path, is_path}
use Rattle.decision_lists.specs.Entries.{Cone, Entry, tail}
use Rattle.decision_lists.specs.Operations.{covers}
use Rattle.filter_text.specs.Filters.{Filter}
use Rattle.filter_routes.specs.Images.{image}

-- whether an entry gives something and its cone has a path of this one: then one of the two has all of the other
abbrev pub meets : Entry → Cone → Bool
meets e c = is_some e.1 && (covers e.0 c || covers c e.0)

-- whether no entry of a list does
abbrev pub is_apart : List Entry → Cone → Bool
is_apart [] c = true
is_apart (e ∷ es) c = not (meets e c) && is_apart es c

-- no path of the cone has an image
abbrev pub ShowsNone : Filter → Cone → Type 0
ShowsNone f c = (p : Path) → is_path p ≡ true → is_some (tail c p) ≡ true → image f p ≡ None

-- the same of the cone of an entry, if there is one
abbrev pub IsShadow : Filter → Option Entry → Type 0
IsShadow f None = ⊤
IsShadow f (Some e) = ShowsNone f e.0

-- whether that cone has a path
abbrev pub is_within : Option Entry → Path → Bool
is_within None p = false
is_within (Some e) p = is_some (tail e.0 p)
