-- Parts of lists of bytes.
use Rattle.std.proofs.Common.{◌≡◌, ℕ, zero, suc, true, [], ◌∷◌, take, drop, refl}
use Rattle.std.specs.Prelude.{nat_lt}
use Rattle.std.specs.Cmp.{first_so, second_so}
use Rattle.git_objects.specs.Paths.{Bytes, is_bytes}
use Rattle.git_objects.proofs.Basics.{and_both}

abbrev pub AreBytes : Bytes → Type 0
AreBytes b = is_bytes b ≡ true

pub take-bytes : (n : ℕ) (b : Bytes) → AreBytes b → AreBytes (take n b)
take-bytes zero b h = refl
take-bytes (suc n) [] h = refl
take-bytes (suc n) (x ∷ b) h = and_both (first_so _ _ h) (take-bytes n b (second_so (nat_lt x 256) _ h))

pub drop-bytes : (n : ℕ) (b : Bytes) → AreBytes b → AreBytes (drop n b)
drop-bytes zero b h = h
drop-bytes (suc n) [] h = refl
drop-bytes (suc n) (x ∷ b) h = drop-bytes n b (second_so (nat_lt x 256) _ h)
