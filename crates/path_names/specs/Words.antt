-- Numbers that texts say.
use Rattle.std.specs.Prelude.{ℕ, ◌+◌, ◌-◌, ◌*◌, cond, ◌&&◌, nat_le, [], ◌∷◌, length, Option, Some, None}
use Rattle.git_objects.specs.Paths.{Bytes}
use Rattle.git_objects.specs.Idents.{is_digit}

-- the digits of a text, read behind others that said n
abbrev pub number_from : ℕ → Bytes → Option ℕ
number_from n [] = Some n
number_from n (x ∷ xs) = cond (is_digit x) (number_from (10 * n + (x - 48)) xs) None

-- what 1 to 18 digits say
unfoldable pub number : Bytes → Option ℕ
number text = cond (nat_le 1 (length text) && nat_le (length text) 18) (number_from 0 text) None
