-- The parts of filter texts below pieces: bytes, words at the front, gaps, names of paths.
use Rattle.std.specs.Prelude.{ℕ, ◌-◌, Bool, true, false, not, cond, ◌||◌, ◌==◌, nat_le, nat_eq, [], ◌∷◌, length, take, drop, Option, Some, None, option_map}
use Rattle.std.specs.Option.{option_and_then}
use Rattle.std.specs.List.{position_or_len, ends_with}
use Rattle.git_objects.specs.CommitBodies.{strip}
use Rattle.git_objects.specs.Paths.{Bytes, Path}
use Rattle.path_names.specs.PathTexts.{ok_path, path_of}
use Rattle.path_names.specs.Quoting.{unquote}

-- what was read at the front of a text, and the text behind it
abbrev pub Read : Type 0 → Type 0
Read X = Option (X × Bytes)

-- whether the byte stands first
abbrev pub begins : ℕ → Bytes → Bool
begins x [] = false
begins x (y ∷ t) = y == x

-- space, tab or carriage return
abbrev pub is_blank : ℕ → Bool
is_blank x = x == 32 || x == 9 || x == 13

-- what separates members: a comma or an LF
abbrev pub is_break : ℕ → Bool
is_break x = x == 44 || x == 10

-- where a bare path ends: a byte below 33, 127, and `:`, `,`, `[`, `]`, `=`, `"`, `#` and `*`
abbrev pub ends_bare : ℕ → Bool
ends_bare x =
    nat_le x 32 || x == 127 || x == 58 || x == 44 || x == 91 || x == 93 || x == 61 || x == 34 || x == 35 || x == 42

-- ---- gaps

-- In a comment or not, and whether a break came before: the same behind one more byte, or nothing where the gap ends
-- before it.
abbrev pub gap_byte : Bool → Bool → ℕ → Option (Bool × Bool)
gap_byte true broken x = Some (not (x == 10), broken || x == 10)
gap_byte false broken x =
    cond (is_break x) (Some (false, true))
    (cond (is_blank x) (Some (false, broken))
    (cond (x == 35) (Some (true, broken)) None))

abbrev pub going : {X : Type 0} → Option (Bool × Bool) → (Bool → Bool → X) → X → X
going None on end = end
going (Some s) on end = on s.0 s.1

-- whether the gap has a break, and the text behind it
abbrev pub gap_from : Bool → Bool → Bytes → Bool × Bytes
gap_from comment broken [] = (broken, [])
gap_from comment broken (x ∷ t) =
    going (gap_byte comment broken x) (λ c b. gap_from c b t) (broken, x ∷ t)

abbrev pub gap : Bytes → Bool × Bytes
gap t = gap_from false false t

abbrev pub past_blanks : Bytes → Bytes
past_blanks [] = []
past_blanks (x ∷ t) = cond (is_blank x) (past_blanks t) (x ∷ t)

-- ---- names of paths

-- the path of a text that was read, where it is one
abbrev pub as_path : Read Bytes → Read Path
as_path None = None
as_path (Some x) = option_map (λ p. (p, x.1)) (ok_path (path_of x.0))

abbrev pub cut : ℕ → Bytes → Read Bytes
cut n t = Some (take n t, drop n t)

-- a text between quotes
abbrev pub quoted_at : Bytes → Read Bytes
quoted_at t = option_map (λ u. (u.0, drop u.1 t)) (unquote t)

abbrev pub bare_len : Bytes → ℕ
bare_len t = position_or_len ends_bare t

-- one less where the text's last byte is a slash
abbrev pub without_slash : Bytes → ℕ
without_slash t = cond (ends_with nat_eq t (47 ∷ [])) (length t - 1) (length t)

-- a bare path, as long as possible, or one between quotes
unfoldable pub name_at : Bytes → Read Path
name_at t = as_path (cond (begins 34 t) (quoted_at t) (cut (bare_len t) t))

-- a path, of which a bare one leaves a slash at its end to what follows
unfoldable pub kept_name_at : Bytes → Read Path
kept_name_at t = as_path (cond (begins 34 t) (quoted_at t) (cut (without_slash (take (bare_len t) t)) t))

-- the target in front of a member that doesn't begin with `:`, with its `=` and the blanks around that
abbrev pub equals : Path × Bytes → Read (Option Path)
equals x = option_map (λ r. (Some x.0, past_blanks r)) (strip (61 ∷ []) (past_blanks x.1))

unfoldable pub target_at : Bytes → Read (Option Path)
target_at t = cond (begins 58 t) (Some (None, t)) (option_and_then equals (name_at t))
