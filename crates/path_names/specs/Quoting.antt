-- Texts between double quotes, as Git writes paths (git-fast-import(1)).
use Rattle.std.specs.Prelude.{◌+◌, ◌-◌, ◌*◌, ◌/◌, ◌%◌, ℕ, Bool, cond, ◌||◌, ◌&&◌, ◌==◌, nat_le, [], ◌∷◌, ◌++◌, Option, Some, None}
use Rattle.std.specs.Option.{option_map}
use Rattle.std.specs.List.{list_any}
use Rattle.git_objects.specs.Paths.{Bytes}

-- ---- writing

-- a byte's letter behind a backslash: `a`, `b`, `t`, `n`, `v`, `f`, `r`, `"` and `\`
abbrev pub short : ℕ → Option ℕ
short x =
    cond (x == 7) (Some 97)
    (cond (x == 8) (Some 98)
    (cond (x == 9) (Some 116)
    (cond (x == 10) (Some 110)
    (cond (x == 11) (Some 118)
    (cond (x == 12) (Some 102)
    (cond (x == 13) (Some 114)
    (cond (x == 34) (Some 34)
    (cond (x == 92) (Some 92) None))))))))

-- below 32, or 127
abbrev pub is_hidden : ℕ → Bool
is_hidden x = nat_le x 31 || x == 127

-- whether a byte is escaped between quotes
abbrev pub is_special : ℕ → Bool
is_special x = is_hidden x || x == 34 || x == 92

-- a backslash and three octal digits
abbrev pub octal : ℕ → Bytes
octal x = 92 ∷ (48 + x / 8 / 8) ∷ (48 + x / 8 % 8) ∷ (48 + x % 8) ∷ []

abbrev pub escape : ℕ → Option ℕ → Bytes
escape x (Some letter) = 92 ∷ letter ∷ []
escape x None = cond (is_hidden x) (octal x) (x ∷ [])

-- a byte between quotes
unfoldable pub quoted_byte : ℕ → Bytes
quoted_byte x = escape x (short x)

-- behind the opening quote
abbrev pub quoted_rest : Bytes → Bytes
quoted_rest [] = 34 ∷ []
quoted_rest (x ∷ t) = quoted_byte x ++ quoted_rest t

-- the text between quotes
abbrev pub quoted : Bytes → Bytes
quoted t = 34 ∷ quoted_rest t

-- the text itself where no byte is escaped
unfoldable pub quote : Bytes → Bytes
quote t = cond (list_any is_special t) (quoted t) t

-- ---- reading

-- the byte of a letter behind a backslash
abbrev pub unshort : ℕ → Option ℕ
unshort x =
    cond (x == 97) (Some 7)
    (cond (x == 98) (Some 8)
    (cond (x == 116) (Some 9)
    (cond (x == 110) (Some 10)
    (cond (x == 118) (Some 11)
    (cond (x == 102) (Some 12)
    (cond (x == 114) (Some 13)
    (cond (x == 34) (Some 34)
    (cond (x == 92) (Some 92) None))))))))

-- in the text, behind a backslash, or behind one or two octal digits of that value
pub data Place : Type 0 where
  Plain : Place
  Slash : Place
  First : ℕ → Place
  Second : ℕ → Place

-- what was read and how many bytes it took
abbrev pub Found : Type 0
Found = Option (Bytes × ℕ)

abbrev pub passing : Found → Found
passing o = option_map (λ f. (f.0, f.1 + 1)) o

abbrev pub adding : ℕ → Found → Found
adding x o = option_map (λ f. (x ∷ f.0, f.1 + 1)) o

abbrev pub is_octal : ℕ → Bool
is_octal x = nat_le 48 x && nat_le x 55

-- behind a backslash: a letter, or the first of three octal digits, which is at most 3
abbrev pub letter : ℕ → Option ℕ → (ℕ → Found) → (Place → Found) → Found
letter x (Some b) plain on = plain b
letter x None plain on = cond (nat_le 48 x && nat_le x 51) (passing (on (First (x - 48)))) None

-- up to and with the closing quote; nothing where an LF comes before it, where it is missing, or where a backslash
-- begins nothing of the above
abbrev pub unquoted : Place → Bytes → Found
unquoted p [] = None
unquoted Plain (x ∷ xs) =
    cond (x == 34) (Some ([], 1))
    (cond (x == 92) (passing (unquoted Slash xs))
    (cond (x == 10) None (adding x (unquoted Plain xs))))
unquoted Slash (x ∷ xs) = letter x (unshort x) (λ b. adding b (unquoted Plain xs)) (λ p. unquoted p xs)
unquoted (First n) (x ∷ xs) = cond (is_octal x) (passing (unquoted (Second (8 * n + (x - 48))) xs)) None
unquoted (Second n) (x ∷ xs) = cond (is_octal x) (adding (8 * n + (x - 48)) (unquoted Plain xs)) None

-- what a text that begins with a quote has up to its closing one, and how many bytes that takes with both quotes
unfoldable pub unquote : Bytes → Found
unquote [] = None
unquote (x ∷ xs) = cond (x == 34) (passing (unquoted Plain xs)) None

-- where the text doesn't go on by itself: a quote, a backslash or an LF
abbrev pub is_marked : ℕ → Bool
is_marked x = x == 34 || x == 92 || x == 10

-- the byte of three octal digits
abbrev pub octal_of : Bytes → Option ℕ
octal_of (a ∷ b ∷ c ∷ t) =
    cond (nat_le 48 a && nat_le a 51 && is_octal b && is_octal c) (Some (64 * (a - 48) + 8 * (b - 48) + (c - 48))) None
octal_of _ = None

-- what was found, behind bytes that were read before and took n bytes
abbrev pub behind : Bytes → ℕ → Found → Found
behind done n o = option_map (λ f. (done ++ f.0, f.1 + n)) o
