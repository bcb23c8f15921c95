-- What a source has left, as bytes. A list of bytes is held as it is.
use Rattle.std.specs.Prelude.{◌≡◌, ◌<◌, ◌%◌, ℕ, List, [], ◌∷◌, true, map, None, Some, IfSome, IsSome, refl}
use Rattle.std.specs.Option.{option_map}
use Rattle.std.specs.declared.option.Option.{Option}
use Rattle.std.proofs.Common.{arith}
use Rattle.std.proofs.lemmas.Bool.{lt-ltb}
use Rattle.git_objects.specs.Paths.{Bytes, is_bytes}
use Rattle.git_objects.proofs.Basics.{and_both}

-- numbers as a source holds them: each a byte
abbrev pub held_bytes : List ℕ → Bytes
held_bytes xs = map (λ x. x % 256) xs

-- the same of what is left, where that is known
abbrev pub held_left : Option (List ℕ) → Option Bytes
held_left left = option_map held_bytes left

-- what is held are bytes
pub held_are_bytes : (xs : List ℕ) → is_bytes (held_bytes xs) ≡ true
held_are_bytes [] = refl
held_are_bytes (x ∷ xs) = let low : x % 256 < 256 = omega arith in and_both (lt-ltb (x % 256) 256 low) (held_are_bytes xs)

pub left_are_bytes : (left : Option (List ℕ)) → IfSome (held_left left) (λ l. is_bytes l ≡ true)
left_are_bytes None = tt
left_are_bytes (Some xs) = held_are_bytes xs

pub left_is_known : (left : Option (List ℕ)) → IsSome left → IsSome (held_left left)
left_is_known None known = known
left_is_known (Some xs) known = known
