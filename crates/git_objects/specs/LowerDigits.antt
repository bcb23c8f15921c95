-- The hexadecimal digits that Git writes.
use Rattle.std.specs.Prelude.{ℕ, Bool, ◌&&◌, ◌||◌, nat_le}

-- whether it is one of `0` to `9` and `a` to `f`
abbrev pub is_lower : ℕ → Bool
is_lower c = nat_le 48 c && nat_le c 57 || nat_le 97 c && nat_le c 102
