-- Idents: who made a commit, and when.
use Rattle.std.specs.Prelude.{◌≡◌, ℕ, Bool, true, false, not, cond, ◌&&◌, ◌||◌, ◌==◌, nat_le, [], ◌∷◌, ◌++◌, length, Option, Some, None}
use Rattle.std.specs.Option.{option_map, option_map_or}
use Rattle.std.specs.List.{list_all}
use Rattle.git_objects.specs.Paths.{Bytes, is_nil}

abbrev pub is_digit : ℕ → Bool
is_digit x = nat_le 48 x && nat_le x 57

-- so many digits at most, and at least one
abbrev pub is_number : ℕ → Bytes → Bool
is_number most t = nat_le 1 (length t) && nat_le (length t) most && list_all is_digit t

-- no `<`, `>`, LF or zero byte
abbrev pub is_quiet : Bytes → Bool
is_quiet t = list_all (λ x. not (x == 60) && not (x == 62) && not (x == 10) && not (x == 0)) t

abbrev pub ends_in_space : Bytes → Bool
ends_in_space [] = false
ends_in_space (x ∷ []) = x == 32
ends_in_space (x ∷ y ∷ t) = ends_in_space (y ∷ t)

-- a name that is empty or ends in a space
abbrev pub is_ident_name : Bytes → Bool
is_ident_name t = is_quiet t && (is_nil t || ends_in_space t)

-- `+` or `-`
abbrev pub is_sign : ℕ → Bool
is_sign x = x == 43 || x == 45

-- An ident: a name that is empty or ends in a space, `<`, an email, `>`, a space, the seconds in 1 to 18 digits, a space,
-- `+` or `-`, and a zone of 1 to 8 digits.
pub record IsIdent (t : Bytes) : Type 0 where
  pub person : Bytes
  pub email : Bytes
  pub seconds : Bytes
  pub sign : ℕ
  pub zone : Bytes
  pub spelled : t ≡ person ++ 60 ∷ (email ++ 62 ∷ 32 ∷ (seconds ++ 32 ∷ sign ∷ zone))
  pub person_fits : is_ident_name person ≡ true
  pub email_fits : is_quiet email ≡ true
  pub seconds_fit : is_number 18 seconds ≡ true
  pub sign_fits : is_sign sign ≡ true
  pub zone_fits : is_number 8 zone ≡ true

-- ---- the same as a test

-- what stands before the first b, and what after it
abbrev pub cut_at : ℕ → Bytes → Option (Bytes × Bytes)
cut_at b [] = None
cut_at b (x ∷ xs) = cond (x == b) (Some ([], xs)) (option_map (λ r. (x ∷ r.0, r.1)) (cut_at b xs))

-- a sign and a zone
abbrev pub is_offset : Bytes → Bool
is_offset [] = false
is_offset (sign ∷ zone) = is_sign sign && is_number 8 zone

-- seconds, a space, a sign and a zone
abbrev pub is_time : Bytes → Bool
is_time t = option_map_or (λ r. is_number 18 r.0 && is_offset r.1) (cut_at 32 t) false

-- what follows `>`: a space and a time
abbrev pub is_ident_end : Bytes → Bool
is_ident_end [] = false
is_ident_end (x ∷ t) = x == 32 && is_time t

-- what follows `<`
abbrev pub is_ident_rest : Bytes → Bool
is_ident_rest t = option_map_or (λ r. is_quiet r.0 && is_ident_end r.1) (cut_at 62 t) false

unfoldable pub is_ident : Bytes → Bool
is_ident t = option_map_or (λ r. is_ident_name r.0 && is_ident_rest r.1) (cut_at 60 t) false
