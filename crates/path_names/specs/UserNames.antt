-- Which words can name a user.
use Rattle.std.specs.Prelude.{Bool, true, false, ◌≡◌, not, ◌&&◌, nat_le, [], ◌∷◌, length, codes, refl}
use Rattle.std.specs.List.{list_all}
use Rattle.git_objects.specs.Paths.{Bytes, same_bytes}
use Rattle.git_objects.specs.declared.limits.TheConstants.{USER_BYTES}

-- 1 to so many bytes, each from 33 to 126, and not `*`
abbrev pub is_user : Bytes → Bool
is_user t =
    nat_le 1 (length t)
    && nat_le (length t) USER_BYTES
    && list_all (λ x. nat_le 33 x && nat_le x 126) t
    && not (same_bytes t (codes "*"))

pub a_user_of_one_byte : is_user (codes "x") ≡ true
a_user_of_one_byte = refl

pub a_star_is_nobody : is_user (codes "*") ≡ false
a_star_is_nobody = refl

pub a_star_within_a_name : is_user (codes "**") ≡ true
a_star_within_a_name = refl

pub a_blank_within_a_name : is_user (codes "a b") ≡ false
a_blank_within_a_name = refl

pub a_byte_beyond_126 : is_user (97 ∷ 127 ∷ []) ≡ false
a_byte_beyond_126 = refl

pub no_user : is_user [] ≡ false
no_user = refl
