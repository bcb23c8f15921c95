-- How far a stream has to be read before something of it is told.
use Rattle.std.specs.Prelude.{◌+◌, ◌≤◌, ℕ, true, Option, Some, None, Ok, Err}
use Rattle.git_objects.specs.Paths.{Bytes}
use Rattle.git_objects.specs.declared.limits.TheConstants.{BLOB_BYTES, LINE_BYTES, STREAM_BYTES}
use Rattle.stream_lex.specs.Cutting.{grown, place}
use Rattle.stream_lex.specs.Lines.{Input, Lex, Line, line_at}
use Rattle.stream_lex.specs.declared.stop.LimitFault.TheVariants.{LongLine, StreamTooLong}
use Rattle.stream_lex.specs.declared.stop.Stop.TheVariants as stops
use Rattle.stream_reader.specs.Commands.{Told, read_command}
use Rattle.stream_reader.specs.Readers.{Reading, came}
use Rattle.stream_reader.specs.Reading.{Read}
use Rattle.stream_reader.specs.declared.command.Placed.{Placed}
use Rattle.stream_reader.specs.declared.fault.StreamFault.{StreamFault}
use Rattle.stream_reader.specs.declared.fault.StreamFault.TheVariants.{BadPath, Collision, Limit, NoSource, OutOfMemory, Syntax, Unresolved, Unsupported}
use Rattle.stream_reader.specs.declared.progress.Phase.{Phase}
use Rattle.stream_reader.specs.declared.progress.Phase.TheVariants.{Between, InCommit, Finished}
use Rattle.stream_reader.specs.declared.progress.Progress.{Progress}

-- the place of a fault of reading
abbrev pub fault_place : StreamFault → ℕ
fault_place (Syntax at) = at
fault_place (Unsupported at what) = at
fault_place (Unresolved at) = at
fault_place (BadPath at) = at
fault_place (NoSource at) = at
fault_place (Limit at which) = at
fault_place (Collision n) = 0
fault_place OutOfMemory = 0

abbrev pub line_place : Lex (Option Line) → ℕ
line_place (Ok (Some l, j)) = l.place
line_place (Ok (None, j)) = j.at
line_place (Err (stops.Fault (LongLine at))) = at
line_place (Err (stops.Fault StreamTooLong)) = STREAM_BYTES
line_place (Err (stops.More w)) = place w

-- The place of the next line that is no comment; the input's end where there is none, and the place of the fault where it
-- can't be read.
abbrev pub next_place : Input → ℕ
next_place i = line_place (line_at true i)

-- the place of the first line that is looked at, given what is expected: behind `done` none is
abbrev pub awaited : Phase → Input → ℕ
awaited Between i = next_place i
awaited InCommit i = next_place i
awaited Finished i = i.at

-- the place behind a command, or the end
abbrev pub place_behind : Option Placed → Progress → Input → ℕ
place_behind (Some c) p i = awaited p.phase i
place_behind None p i = i.at

-- the place up to which is read before this is told of a whole stream
abbrev pub told_place : Read Told → ℕ
told_place (Ok x) = place_behind x.0.command x.0.progress x.1
told_place (Err (stops.Fault f)) = fault_place f
told_place (Err (stops.More w)) = place w

-- No more than a blob and a line have come behind that place, whatever follows.
abbrev pub IsNear : Reading → Type 0
IsNear r = (more : Bytes) → came r ≤ told_place (read_command r.progress true (grown more r.input)) + (BLOB_BYTES + LINE_BYTES + 1)
