-- Decision lists that give a filter's images.
use Rattle.std.specs.Prelude.{◌≡◌, List, [], ◌∷◌, ⊤, Option, Some, None, Bool, true, false}
use Rattle.std.specs.Global.{Vec}
use Rattle.git_objects.specs.Lists.{Each}
use Rattle.git_objects.specs.Paths.{Path}
use Rattle.decision_lists.specs.Entries.{Entry, below, run}
use Rattle.decision_lists.specs.Lists.{Full, Fine, Thin}
use Rattle.filter_text.specs.Filters.{Filter, has_paths, nop, sub, onto, dir, file, exclude, join, chain, workspace}
use Rattle.filter_routes.specs.Images.{image}
use Rattle.filter_routes.specs.Soundness.{IsSound, is_keeping}

-- a directory that is taken off, put on or kept is the one entry of its list
abbrev pub IsOneEntry : Filter → List Entry → Type 0
IsOneEntry nop es = ⊤
IsOneEntry (sub a) es = es ≡ (below a, Some []) ∷ []
IsOneEntry (onto a) es = es ≡ (below [], Some a) ∷ []
IsOneEntry (dir a) es = es ≡ (below a, Some a) ∷ []
IsOneEntry (file a) es = ⊤
IsOneEntry (exclude f) es = ⊤
IsOneEntry (join fs) es = ⊤
IsOneEntry (chain fs) es = ⊤
IsOneEntry (workspace a) es = ⊤

-- the list gives each path its image, no entry is hidden, and all paths in it are of components
pub record IsListOf (f : Filter) (es : List Entry) : Type 0 where
  pub gives : (p : Path) → Full p → run None es p ≡ image f p
  pub thin : Thin [] es
  pub fine : Each Fine es
  pub one : IsOneEntry f es

-- a sound filter, one that only keeps
abbrev pub Admits : Bool → Filter → Type 0
Admits true f = IsSound f
Admits false f = is_keeping f ≡ true

-- what is made of a filter: its list where it is admitted, else nothing
abbrev pub Listed : Bool → Filter → Option (List Entry) → Type 0
Listed apart f None = Admits apart f → ⊥
Listed apart f (Some es) = Admits apart f × IsListOf f es × (has_paths f ≡ true)

-- what contracts see of a list
abbrev pub entries_of : Option (Vec Entry) → Option (List Entry)
entries_of None = None
entries_of (Some v) = Some v.items
