-- Where a cone first stands in a decision list, and how an index of numbers finds it.
use Rattle.std.specs.Prelude.{◌≡◌, ℕ, ◌+◌, ◌*◌, ◌^◌, ◌%◌, ◌/◌, bit_xor, ◌<◌, suc, List, [], ◌∷◌, length, slice_get, Option, Some, None, option_map, Bool, true, false, cond}
use Rattle.git_objects.specs.Paths.{Path, same_path}
use Rattle.decision_lists.specs.Entries.{Cone, at, below, Entry}
use Rattle.decision_lists.specs.Operations.{are_live}

-- a number, and one byte more
unfoldable pub with_byte : ℕ → ℕ → ℕ
with_byte h x = ((h * 6364136223846793005) % 2 ^ 64 + x) % 2 ^ 64

-- A number and one byte more, with its upper half put over the lower one: texts with one number are hard to find.
unfoldable pub stepped : ℕ → ℕ → ℕ
stepped h x = bit_xor (with_byte h x) (with_byte h x / 2 ^ 32)

-- a number, and one component more
abbrev pub mixed : ℕ → List ℕ → ℕ
mixed h [] = stepped h 47
mixed h (x ∷ c) = mixed (stepped h x) c

-- a number, and the components of a path
abbrev pub code_from : ℕ → Path → ℕ
code_from h [] = h
code_from h (c ∷ p) = code_from (mixed h c) p

-- the number of a cone, which others may share
abbrev pub code : Cone → ℕ
code (at s) = stepped (code_from 1 s) 1
code (below s) = stepped (code_from 1 s) 2

abbrev pub same_cone : Cone → Cone → Bool
same_cone (at s) (at u) = same_path s u
same_cone (at s) (below u) = false
same_cone (below s) (at u) = false
same_cone (below s) (below u) = same_path s u

-- the first place of the cone in the list
abbrev pub first_of : List Entry → Cone → Option ℕ
first_of [] d = None
first_of (e ∷ es) d = cond (same_cone e.0 d) (Some 0) (option_map suc (first_of es d))

abbrev pub is_cone : Option Entry → Cone → Bool
is_cone None d = false
is_cone (Some e) d = same_cone e.0 d

-- a place, if the cone stands there
abbrev pub place_at : List Entry → Cone → Option ℕ → Option ℕ
place_at es d None = None
place_at es d (Some j) = cond (is_cone (slice_get es j) d) (Some j) None

-- Unless two cones of the list share a number, each cone's first place is found by its number.
abbrev pub Finds : (ℕ → Option ℕ) → Bool → List Entry → Type 0
Finds f clean es = clean ≡ true → (d : Cone) → place_at es d (f (code d)) ≡ first_of es d

-- Each cone's first place is found by its number, and all places lie in the list.
pub record IsIndex (f : ℕ → Option ℕ) (clean : Bool) (es : List Entry) : Type 0 where
  pub finds : Finds f clean es
  pub within : clean ≡ true → (k j : ℕ) → f k ≡ Some j → j < length es

-- a list with its index, and whether all its entries have targets
pub record IsIndexed (f : ℕ → Option ℕ) (clean live : Bool) (es : List Entry) : Type 0 where
  pub index : IsIndex f clean es
  pub targets : live ≡ are_live es
