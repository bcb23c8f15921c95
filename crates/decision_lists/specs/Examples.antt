-- Worked examples.
use Rattle.std.specs.Prelude.{◌≡◌, refl, List, [], ◌∷◌, codes, Some, true, false}
use Rattle.git_objects.specs.Paths.{Path}
use Rattle.decision_lists.specs.Entries.{at, below, Entry}
use Rattle.decision_lists.specs.Operations.{either_left, after_left, turned}
use Rattle.decision_lists.specs.Cells.{cells, any_clash}

abbrev a : Path
a = codes "a" ∷ []

abbrev b : Path
b = codes "b" ∷ []

abbrev x : Path
x = codes "x" ∷ []

abbrev y : Path
y = codes "y" ∷ []

abbrev list_of_sub : Path → List Entry
list_of_sub p = (below p, Some []) ∷ []

abbrev list_of_prefix : Path → List Entry
list_of_prefix p = (below [], Some p) ∷ []

-- what lies below a, put below x
abbrev moved : Path → Path → List Entry
moved p q = after_left (list_of_sub p) (list_of_prefix q)

pub moved_is : moved a x ≡ (below a, Some x) ∷ []
moved_is = refl

-- what lies below a and what lies below b, put below x and y: their paths and their images are apart
pub apart : any_clash (cells [] (moved a x)) (cells [] (moved b y)) ≡ false
apart = refl

-- a and b both taken off: a/c and b/c have one image
pub not_apart : any_clash (cells [] (list_of_sub a)) (cells [] (list_of_sub b)) ≡ true
not_apart = refl

-- what lies below a, what lies below b, and b itself, each where it is
abbrev named : List Entry
named = either_left (either_left ((below a, Some a) ∷ []) ((below b, Some b) ∷ [])) ((at b, Some b) ∷ [])

-- all other paths, beside what lies below a and is put below b
pub apart_by_holes : any_clash (cells [] (turned [] named)) (cells [] (moved a b)) ≡ false
apart_by_holes = refl

-- where b itself is not left out it stays, and clashes
pub not_apart_by_a_file :
    any_clash (cells [] (turned [] (either_left ((below a, Some a) ∷ []) ((below b, Some b) ∷ [])))) (cells [] (moved a b)) ≡ true
not_apart_by_a_file = refl
