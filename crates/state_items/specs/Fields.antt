-- Reading the fields of an item, one behind another.
use Rattle.std.specs.Prelude.{ℕ, ◌+◌, ◌*◌, if◌then◌else◌, nat_le, [], ◌∷◌, length, take, drop, fold, Result, Ok, Err}
use Rattle.git_objects.specs.Paths.{Bytes}
use Rattle.git_objects.specs.Results.{◌>>=◌}

-- what is still to be read, and the place of its first byte
pub record Spot : Type 0 where
  pub at : ℕ
  pub rest : Bytes

-- why an item isn't taken: a rule is broken at a place, or another object has an object's name
pub data Fault : Type 0 where
  BrokenAt : ℕ → Fault
  Clash : Bytes → Fault

-- a value and what follows it
abbrev pub Read : Type 0 → Type 0
Read A = Result (A × Spot) Fault

abbrev pub start : Bytes → Spot
start bytes = record { at = 0; rest = bytes }

-- so many bytes
abbrev pub field : ℕ → Spot → Read Bytes
field n s = if nat_le n (length s.rest) then Ok (take n s.rest, record { at = s.at + n; rest = drop n s.rest }) else Err (BrokenAt s.at)

-- a number, the high byte first
abbrev pub number_of : Bytes → ℕ
number_of bytes = fold (λ n x. 256 * n + x) 0 bytes

abbrev pub as_number : Bytes × Spot → Read ℕ
as_number r = Ok (number_of r.0, r.1)

abbrev pub number : ℕ → Spot → Read ℕ
number n s = field n s >>= as_number

abbrev pub ended_at : ℕ → Bytes → Result (Unit {0}) Fault
ended_at at [] = Ok tt
ended_at at (x ∷ rest) = Err (BrokenAt at)

-- nothing follows
abbrev pub ended : Spot → Result (Unit {0}) Fault
ended s = ended_at s.at s.rest
