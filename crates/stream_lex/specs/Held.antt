-- What a lexer holds.
use Rattle.std.specs.Prelude.{◌+◌, ◌≤◌, ℕ, length, drop}
use Rattle.git_objects.specs.declared.limits.TheConstants.{STREAM_BYTES}
use Rattle.stream_lex.specs.declared.lexer.Lexer.TheInside.{Inside}
use Rattle.stream_lex.specs.Lines.{Input, HasNone}
use Rattle.stream_lex.specs.Passed.{IsPast}
use Rattle.stream_lex.specs.Lexing.{Lexed}

-- what stands behind its first n bytes
abbrev pub behind_first : ℕ → Inside → Input
behind_first n l = record { at = l.base + n; rest = drop n l.bytes.items }

abbrev pub held : Inside → Lexed
held l = record { input = behind_first l.used l; ended = l.ended }

-- The bytes between `used` and `from` are comments, and the next ones have no LF.
pub record IsHeld (l : Inside) : Type 0 where
  pub order : l.used ≤ l.from
  pub room : l.from + l.clear ≤ length l.bytes.items
  pub within : l.base + l.from ≤ STREAM_BYTES
  pub past : IsPast (behind_first l.used l) (behind_first l.from l)
  pub clear : HasNone (drop l.from l.bytes.items) l.clear
