-- What lines and blocks are, in the bytes of a whole input.
use Rattle.std.specs.Prelude.{◌≡◌, ◌≢◌, ◌+◌, ◌<◌, ◌≤◌, ◌⊎◌, ℕ, Bool, true, false, not, ◌==◌, List, [], ◌∷◌, ◌++◌, length}
use Rattle.std.specs.List.{list_all}
use Rattle.git_objects.specs.declared.limits.TheConstants.{LINE_BYTES, STREAM_BYTES}
use Rattle.git_objects.specs.Paths.{Bytes}
use Rattle.stream_lex.specs.Lines.{Input, Line, is_comment, HasNone}

abbrev pub no_lf : Bytes → Bool
no_lf l = list_all (λ x. not (x == 10)) l

-- the line ends at an LF, or at the end of the input
abbrev pub EndsAtLf : Input → Bytes → Input → Type 0
EndsAtLf i l j = (i.rest ≡ l ++ 10 ∷ j.rest) × (j.at ≡ i.at + (length l + 1))

abbrev pub EndsAtEnd : Input → Bytes → Input → Type 0
EndsAtEnd i l j = (i.rest ≡ l) × (0 < length l) × (j ≡ record { at = i.at + length l; rest = [] })

-- l stands first in i, comment or not, and j is behind it
pub record TakesLine (i : Input) (l : Line) (j : Input) : Type 0 where
  pub place : l.place ≡ i.at
  pub plain : no_lf l.bytes ≡ true
  pub short : length l.bytes ≤ LINE_BYTES
  pub within : j.at ≤ STREAM_BYTES
  pub ends : EndsAtLf i l.bytes j ⊎ EndsAtEnd i l.bytes j

-- j is behind these comments
abbrev pub SkipsComments : List Bytes → Input → Input → Type 0
SkipsComments [] i j = i ≡ j
SkipsComments (k ∷ ks) i j = (m : Input) × TakesLine i (record { place = i.at; bytes = k }) m × (is_comment k ≡ true) × SkipsComments ks m j

-- l is the next line behind any comments, and j is behind it
pub record NextLine (i : Input) (l : Line) (j : Input) : Type 0 where
  pub comments : List Bytes
  pub from : Input
  pub skips : SkipsComments comments i from
  pub takes : TakesLine from l j
  pub plain : is_comment l.bytes ≡ false

abbrev pub HasLine : Input → Type 0
HasLine i = (l : Line) × (j : Input) × NextLine i l j

-- only comments are left, and j is the end
pub record NoLine (i j : Input) : Type 0 where
  pub comments : List Bytes
  pub skips : SkipsComments comments i j
  pub within : j.at ≤ STREAM_BYTES
  pub nothing : j.rest ≡ []

-- the next line ends at an LF
abbrev pub IsWhole : (i : Input) (l : Line) (j : Input) → NextLine i l j → Type 0
IsWhole i l j h = EndsAtLf h.from l.bytes j

abbrev pub HasWholeLine : Input → Type 0
HasWholeLine i = (l : Line) × (j : Input) × (h : NextLine i l j) × IsWhole i l j h

-- a line that is too long: its first 65,537 bytes stand in the first 2^28 bytes of the stream and have no LF
pub record IsLong (i : Input) : Type 0 where
  pub some : LINE_BYTES < length i.rest
  pub plain : HasNone i.rest (LINE_BYTES + 1)
  pub within : i.at + LINE_BYTES + 1 ≤ STREAM_BYTES

-- the next line behind any comments begins there and is too long
pub record NextIsLong (i : Input) (at : ℕ) : Type 0 where
  pub comments : List Bytes
  pub from : Input
  pub skips : SkipsComments comments i from
  pub place : at ≡ from.at
  pub long : IsLong from

-- one LF behind a block is taken
abbrev pub PastLf : ℕ → Bytes → Input → Type 0
PastLf at [] j = j ≡ record { at = at; rest = [] }
PastLf at (x ∷ xs) j = ((x ≡ 10) × (j ≡ record { at = at + 1; rest = xs })) ⊎ ((x ≢ 10) × (j ≡ record { at = at; rest = x ∷ xs }))

pub record TakesBlock (i : Input) (b : Bytes) (j : Input) : Type 0 where
  pub rest : Bytes
  pub front : i.rest ≡ b ++ rest
  pub past : PastLf (i.at + length b) rest j
  pub within : j.at ≤ STREAM_BYTES
