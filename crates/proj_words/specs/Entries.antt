-- Batches: the entries that an input spells, and the reply to one of them.
use Rattle.std.specs.Prelude.{ℕ, zero, suc, ◌+◌, ◌^◌, Bool, true, false, ◌&&◌, ◌==◌, nat_le}
use Rattle.std.specs.Prelude.{if◌then◌else◌, List, [], ◌∷◌, ◌++◌, length, take, drop, slice_get}
use Rattle.std.specs.Prelude.{codes, decimal, Option, Some, None, Result, Ok}
use Rattle.std.specs.Option.{option_and_then, option_map_or}
use Rattle.git_objects.specs.Paths.{Bytes}
use Rattle.git_objects.specs.Idents.{cut_at}
use Rattle.git_objects.specs.CommitBodies.{strip}
use Rattle.git_objects.specs.Results.{◌>>=◌, or_refuse, must, refused_by}
use Rattle.git_objects.specs.declared.quantity.Quantity.TheVariants as limits
use Rattle.path_names.specs.Words.{number}
use Rattle.proj_words.specs.Outcomes.{code_of}
use Rattle.proj_words.specs.declared.outcome.Outcome.{Outcome}
use Rattle.proj_words.specs.declared.outcome.Outcome.TheVariants.{OutOfMemory, Syntax, Limit}

-- ---- the input

-- a line of words, and the bytes that are the input of its command
pub record Entry : Type 0 where
  pub words : Bytes
  pub input : Bytes

-- what is still to be read, and the place of its first byte
pub record Spot : Type 0 where
  pub at : ℕ
  pub rest : Bytes

abbrev pub start : Bytes → Spot
start bytes = record { at = 0; rest = bytes }

-- the bytes of a line, whether it ends in an LF, and what follows it
pub record TextLine : Type 0 where
  pub bytes : Bytes
  pub ended : Bool
  pub next : Spot

abbrev pub cut_line : Spot → Option (Bytes × Bytes) → TextLine
cut_line s (Some r) = record { bytes = r.0; ended = true; next = record { at = s.at + length r.0 + 1; rest = r.1 } }
cut_line s None = record { bytes = s.rest; ended = false; next = record { at = s.at + length s.rest; rest = [] } }

abbrev pub line_by : Spot → Bytes → Option TextLine
line_by s [] = None
line_by s (x ∷ rest) = Some (cut_line s (cut_at 10 (x ∷ rest)))

-- the next line, where a byte is left
abbrev pub line_at : Spot → Option TextLine
line_at s = line_by s s.rest

-- 1 to 9 digits
abbrev pub short_number : Bytes → Option ℕ
short_number t = if nat_le (length t) 9 then number t else None

-- how many bytes a line `bytes N` says
abbrev pub byte_count : Bytes → Option ℕ
byte_count t = option_and_then short_number (strip (codes "bytes ") t)

-- whether so many bytes follow, and then an LF
abbrev pub has_bytes : ℕ → Bytes → Bool
has_bytes n rest = option_map_or (λ x. x == 10) (slice_get rest n) false

-- behind so many bytes and an LF
abbrev pub behind : ℕ → Spot → Spot
behind n s = record { at = s.at + n + 1; rest = drop (n + 1) s.rest }

-- an entry whose line of words stands there, and those that follow it
abbrev pub entries_by : (Spot → Result (List Entry) ℕ) → Option TextLine → Result (List Entry) ℕ
entries_by next None = Ok []
entries_by next (Some w) = do
  b ← or_refuse w.next.at (line_at w.next)
  n ← or_refuse w.next.at (byte_count b.bytes)
  _ ← must w.next.at (b.ended && has_bytes n b.next.rest)
  es ← next (behind n b.next)
  Ok (record { words = w.bytes; input = take n b.next.rest } ∷ es)

-- at most n entries, or the place of the first line that doesn't fit
abbrev pub entries_within : ℕ → Spot → Result (List Entry) ℕ
entries_within zero s = Ok []
entries_within (suc n) s = entries_by (entries_within n) (line_at s)

-- What the input says, of at most 2^29 bytes. A line that doesn't fit is told by its first byte, and one that is
-- missing by the length of the input; where the bytes or their LF are missing, it is the line `bytes N` that doesn't
-- fit. Any line is a line of words.
unfoldable pub entries : Bytes → Result (List Entry) Outcome
entries input = do
  _ ← must (Limit limits.Input None) (nat_le (length input) (2 ^ 29))
  refused_by Syntax (entries_within (length input) (start input))

-- whether an outcome is one of reading the entries: a line that doesn't fit, or want of memory
abbrev pub is_entry_fault : Outcome → Bool
is_entry_fault OutOfMemory = true
is_entry_fault (Syntax at) = true
is_entry_fault _ = false

-- ---- replies

-- how an entry ended, and what it gave
abbrev pub reply_text : Outcome → Bytes → Bytes
reply_text outcome output =
    codes "status " ++ decimal (code_of outcome)
    ++ codes "\nbytes " ++ decimal (length output) ++ 10 ∷ (output ++ 10 ∷ [])
