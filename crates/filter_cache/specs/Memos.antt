-- What a memo holds: for a table's number, a part of the table and a tree's name, the name of the tree that the part shows;
-- and for the names of two trees the name of both put together.
use Rattle.std.specs.Prelude.{◌≤◌, ◌-◌, ℕ, Bool, nat_eq, ◌&&◌, if◌then◌else◌, List, [], ◌∷◌, map, length, take, Option, Some, None, is_some}
use Rattle.std.specs.List.{IsDistinct}
use Rattle.git_objects.specs.Paths.{Bytes, same_bytes}

-- A table's number and a part of the table, and a tree's name. Part 0 is the whole table, and part i + 1 the entry at i of
-- its list.
abbrev pub Key : Type 0
Key = (ℕ × ℕ) × Bytes

abbrev pub same_key : Key → Key → Bool
same_key j k = nat_eq j.0.0 k.0.0 && (nat_eq j.0.1 k.0.1 && same_bytes j.1 k.1)

-- the names of two trees
abbrev pub JoinKey : Type 0
JoinKey = Bytes × Bytes

abbrev pub same_join : JoinKey → JoinKey → Bool
same_join j k = same_bytes j.0 k.0 && same_bytes j.1 k.1

-- what parts of tables show, and joins; of each the latest used first, and how many there may be
pub record Memo : Type 0 where
  pub capacity : ℕ
  pub entries : List (Key × Bytes)
  pub joins : List (JoinKey × Bytes)

-- the name that is held for a key
abbrev pub found : {K : Type 0} → (K → K → Bool) → K → List (K × Bytes) → Option Bytes
found same k [] = None
found same k (e ∷ es) = (if same k e.0 then Some e.1 else found same k es)

-- the entries of other keys
abbrev pub without : {K : Type 0} → (K → K → Bool) → K → List (K × Bytes) → List (K × Bytes)
without same k [] = []
without same k (e ∷ es) = (if same k e.0 then es else e ∷ without same k es)

-- after a look-up: what was found comes first
abbrev pub used_for : {K : Type 0} → (K → K → Bool) → K → Option Bytes → List (K × Bytes) → List (K × Bytes)
used_for same k None es = es
used_for same k (Some n) es = (k, n) ∷ without same k es

abbrev pub used : {K : Type 0} → (K → K → Bool) → K → List (K × Bytes) → List (K × Bytes)
used same k es = used_for same k (found same k es) es

-- The entry first: in the place of one with its key, and otherwise where there is room for it, behind dropping the last
-- where there is none.
abbrev pub entered : {K : Type 0} → (K → K → Bool) → ℕ → K → Bytes → List (K × Bytes) → List (K × Bytes)
entered same capacity k n es = (k, n) ∷ (if is_some (found same k es) then without same k es else take (capacity - 1) es)

-- entries of distinct keys, as many as there may be at most
pub record AreEntries {K : Type 0} (same : K → K → Bool) (capacity : ℕ) (es : List (K × Bytes)) : Type 0 where
  pub distinct : IsDistinct same (map (λ e. e.0) es)
  pub within : length es ≤ capacity

-- what every memo keeps to
pub record IsMemo (m : Memo) : Type 0 where
  pub entries : AreEntries same_key m.capacity m.entries
  pub joins : AreEntries same_join m.capacity m.joins
  pub room : 1 ≤ m.capacity
