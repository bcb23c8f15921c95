-- Graphs of commits: a list in order of arrival, parents before children.
use Rattle.std.specs.Prelude.{◌≡◌, ℕ, ◌<◌, List, Contains, All, Option, Some, slice_get}
use Rattle.std.specs.List.{position}
use Rattle.git_objects.specs.Paths.{Bytes, same_bytes}

-- a commit: its name, its tree's name, and its parents' places
pub record Row : Type 0 where
  pub name : Bytes
  pub tree : Bytes
  pub parents : List ℕ

-- at each row the parents stand before it, and no other row has its name
pub record IsGraph (rows : List Row) : Type 0 where
  pub placed : (i : ℕ) (r : Row) → slice_get rows i ≡ Some r → All (λ p. p < i) r.parents
  pub distinct : (i j : ℕ) (r s : Row) → slice_get rows i ≡ Some r → slice_get rows j ≡ Some s → r.name ≡ s.name → i ≡ j

-- the place of the commit of that name
abbrev pub place_of : Bytes → List Row → Option ℕ
place_of n rows = position (λ r. same_bytes r.name n) rows

-- the places that a commit's lines of parents lead to, its own among them
pub data Reaches (rows : List Row) : ℕ → ℕ → Type 0 where
  Itself : (i : ℕ) → Reaches rows i i
  Through : (i p j : ℕ) (r : Row) → slice_get rows i ≡ Some r → Contains r.parents p → Reaches rows p j → Reaches rows i j
