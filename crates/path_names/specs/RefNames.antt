-- Which texts are ref names (git-check-ref-format(1)).
use Rattle.std.specs.Prelude.{ℕ, Bool, false, not, ◌&&◌, ◌||◌, ◌==◌, nat_eq, nat_le, [], ◌∷◌, length, codes}
use Rattle.std.specs.List.{list_all, slice_split, starts_with, ends_with}
use Rattle.git_objects.specs.Paths.{Bytes}
use Rattle.git_objects.specs.declared.limits.TheConstants.{REF_BYTES}

-- no byte below 33, no 127, and none of `~`, `^`, `:`, `?`, `*`, `[` and `\`
abbrev pub is_ref_byte : ℕ → Bool
is_ref_byte x =
    nat_le 33 x && not (x == 127) && not (x == 126) && not (x == 94) && not (x == 58) && not (x == 63)
    && not (x == 42) && not (x == 91) && not (x == 92)

-- whether a stands somewhere directly before b
abbrev pub has_pair : ℕ → ℕ → Bytes → Bool
has_pair a b [] = false
has_pair a b (x ∷ []) = false
has_pair a b (x ∷ y ∷ t) = (x == a && y == b) || has_pair a b (y ∷ t)

-- neither begins with `.` nor ends in `.lock`
abbrev pub is_ref_part : Bytes → Bool
is_ref_part t = not (starts_with nat_eq t (46 ∷ [])) && not (ends_with nat_eq t (codes ".lock"))

-- A ref name has at least 6 bytes, no more than its limit, and begins with `refs/`. It has no `..`, no `@{` and no `//`, and ends neither in `/`
-- nor in `.`. Each part between slashes is a ref part.
unfoldable pub is_ref_name : Bytes → Bool
is_ref_name t =
    nat_le 6 (length t)
    && nat_le (length t) REF_BYTES
    && starts_with nat_eq t (codes "refs/")
    && list_all is_ref_byte t
    && not (has_pair 46 46 t)
    && not (has_pair 64 123 t)
    && not (has_pair 47 47 t)
    && not (ends_with nat_eq t (codes "/"))
    && not (ends_with nat_eq t (codes "."))
    && list_all is_ref_part (slice_split (λ x. x == 47) t)
