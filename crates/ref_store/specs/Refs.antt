-- Refs: pairs of a ref name and the name of its commit, in order of arrival.
use Rattle.std.specs.Prelude.{◌≡◌, ℕ, cond, List, [], ◌∷◌, Option, Some, None, slice_get}
use Rattle.git_objects.specs.Paths.{Bytes, same_bytes}

-- the commit of that ref name
abbrev pub head_of : List (Bytes × Bytes) → Bytes → Option Bytes
head_of [] n = None
head_of (r ∷ refs) n = cond (same_bytes r.0 n) (Some r.1) (head_of refs n)

-- with that commit in the place of the ref's old one, or behind all
abbrev pub with_head : List (Bytes × Bytes) → Bytes → Bytes → List (Bytes × Bytes)
with_head [] n c = (n, c) ∷ []
with_head (r ∷ refs) n c = cond (same_bytes r.0 n) ((r.0, c) ∷ refs) (r ∷ with_head refs n c)

-- no two pairs have one ref name
abbrev pub AreDistinct : List (Bytes × Bytes) → Type 0
AreDistinct refs = (i j : ℕ) (r s : Bytes × Bytes) → slice_get refs i ≡ Some r → slice_get refs j ≡ Some s → r.0 ≡ s.0 → i ≡ j
