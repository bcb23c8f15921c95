-- Reading from left to right, up to the first fault that is met.
use Rattle.std.specs.Prelude.{Option, Some, None, Result, Ok, Err}
use Rattle.git_objects.specs.declared.quantity.Quantity.TheVariants as limits
use Rattle.git_objects.specs.Paths.{Bytes}
use Rattle.git_objects.specs.CommitBodies.{strip}
use Rattle.git_objects.specs.Results.{◌>>=◌, or_refuse, refused_by}
use Rattle.git_objects.specs.declared.limits.TheConstants.{STREAM_BYTES}
use Rattle.stream_lex.specs.declared.stop.Stop.{Stop}
use Rattle.stream_lex.specs.declared.stop.Stop.TheVariants as stops
use Rattle.stream_lex.specs.declared.stop.LimitFault.{LimitFault}
use Rattle.stream_lex.specs.declared.stop.LimitFault.TheVariants.{LongLine, StreamTooLong}
use Rattle.stream_lex.specs.Lines as lines
use Rattle.stream_lex.specs.Lines.{Input, Line, line_at}
use Rattle.stream_lex.specs.Cutting as readers
use Rattle.stream_reader.specs.declared.fault.StreamFault.{StreamFault}
use Rattle.stream_reader.specs.declared.fault.StreamFault.TheVariants.{Syntax, Limit}

-- a value, or why there is none
abbrev pub Judged : Type 0 → Type 0
Judged A = Result A (Stop StreamFault)

-- a value with what is left
abbrev pub Read : Type 0 → Type 0
Read A = lines.Read StreamFault A

-- A reader: of whether all has come, and of what is left.
abbrev pub Reader : Type 0 → Type 0
Reader A = readers.Reader StreamFault A

abbrev pub fault : {A : Type 0} → StreamFault → Judged A
fault f = Err (stops.Fault f)

abbrev pub or_fault : {A : Type 0} → StreamFault → Option A → Judged A
or_fault f o = or_refuse (stops.Fault f) o

-- ---- lines

abbrev pub stream_stop : Stop LimitFault → Stop StreamFault
stream_stop (stops.More w) = stops.More w
stream_stop (stops.Fault (LongLine at)) = stops.Fault (Limit at limits.Line)
stream_stop (stops.Fault StreamTooLong) = stops.Fault (Limit STREAM_BYTES limits.Stream)

abbrev pub lifted : {A : Type 0} → Result A (Stop LimitFault) → Judged A
lifted r = refused_by stream_stop r

-- the text behind a word at the front of a line, with the line's place
abbrev pub line_text : Line → Input → Option Bytes → Input → Read (Option Line)
line_text l before None after = Ok (None, before)
line_text l before (Some t) after = Ok (Some (record { place = l.place; bytes = t }), after)

abbrev pub line_behind : Bytes → Input → Option Line × Input → Read (Option Line)
line_behind word before (None, after) = Ok (None, before)
line_behind word before (Some l, after) = line_text l before (strip word l.bytes) after

-- The next line where it begins with a word, without this word. Else it isn't taken.
unfoldable pub option_line : Bytes → Reader (Option Line)
option_line word ended i = lifted (line_at ended i) >>= line_behind word i

abbrev pub must : Option Line × Input → Read Line
must (None, i) = fault (Syntax i.at)
must (Some l, i) = Ok (l, i)

-- The next line, which must be there.
unfoldable pub need_line : Reader Line
need_line ended i = lifted (line_at ended i) >>= must
