-- What a reader has, and what its calls tell.
use Rattle.std.specs.Prelude.{◌≡◌, ◌⊎◌, ◌+◌, ◌≤◌, ℕ, length, Bool, true, false, [], Option, Some, None, Result, Ok, Err}
use Rattle.git_objects.specs.Paths.{Bytes}
use Rattle.git_objects.specs.declared.limits.TheConstants.{STREAM_BYTES}
use Rattle.stream_lex.specs.Lines.{Input}
use Rattle.stream_lex.specs.Cutting.{grown, place, StillWants, still_wanted}
use Rattle.stream_lex.specs.Lexing.{Lexed}
use Rattle.stream_reader.specs.declared.fault.StreamFault.{StreamFault}
use Rattle.stream_reader.specs.declared.fault.StreamFault.TheVariants.{OutOfMemory}
use Rattle.stream_reader.specs.declared.halt.Halt.{Halt}
use Rattle.stream_reader.specs.declared.halt.Halt.TheVariants as halts
use Rattle.stream_lex.specs.declared.stop.Wanted.{Wanted}
use Rattle.stream_lex.specs.declared.stop.Stop.TheVariants as stops
use Rattle.stream_reader.specs.declared.progress.Progress.{Progress}
use Rattle.stream_reader.specs.declared.progress.Event.{Event}
use Rattle.stream_reader.specs.declared.reader.Next.{Next}
use Rattle.stream_reader.specs.declared.reader.Next.TheVariants as nexts
use Rattle.stream_reader.specs.Reading.{Read}
use Rattle.stream_reader.specs.Commands.{Told, turn, read_command}
use Rattle.stream_reader.specs.Verdicts.{Verdict, stopped, with_command, size, verdict_from}

-- what is expected next, what was fed and isn't read, and whether that is all
pub record Reading : Type 0 where
  pub progress : Progress
  pub input : Input
  pub ended : Bool

abbrev pub reading : Progress → Lexed → Reading
reading p l = record { progress = p; input = l.input; ended = l.ended }

abbrev pub next_command : Reading → Read Told
next_command r = read_command r.progress r.ended r.input

-- w is waited for: before it is there nothing can be told, however much has come
pub record WaitsFor (r : Reading) (w : Wanted) : Type 0 where
  pub from : r.input.at ≤ place w
  pub room : place w ≤ r.input.at + length r.input.rest
  pub within : place w ≤ STREAM_BYTES
  pub still : (more : Bytes) (v : Wanted) → StillWants w (grown more r.input) v → turn r.progress false (grown more r.input) ≡ Err (stops.More v)

abbrev pub IsWaiting : Option Wanted → Reading → Type 0
IsWaiting None r = Unit {0}
IsWaiting (Some w) r = WaitsFor r w

-- what is waited for now
abbrev pub wanted_now : Option Wanted → Lexed → Option Wanted
wanted_now None l = None
wanted_now (Some w) l = still_wanted w l.ended l.input

-- a place of what a lexer holds
pub record IsPlace (l : Lexed) (at : ℕ) : Type 0 where
  pub within : at ≤ STREAM_BYTES
  pub from : l.input.at ≤ at
  pub room : at ≤ l.input.at + length l.input.rest

-- where more was fed, and the end was told or not; behind the end nothing comes
abbrev pub fed : Bytes → Bool → Reading → Reading
fed more ended r = record { progress = r.progress; input = grown more r.input; ended = ended }

abbrev pub MayFollow : Reading → Bytes → Bool → Type 0
MayFollow r more ended = r.ended ≡ true → (more ≡ []) × (ended ≡ true)

-- how many bytes of the stream have come
abbrev pub came : Reading → ℕ
came r = r.input.at + length r.input.rest

-- what is left to be read, so counted that each command lowers it
abbrev pub left : Reading → ℕ
left r = size r.progress r.input

-- Whatever follows, what is told behind both is the same: lines between them, if any, give no command.
pub record IsBefore (old new : Reading) : Type 0 where
  pub same : (ended : Bool) (more : Bytes) → MayFollow old more ended →
      read_command old.progress ended (grown more old.input) ≡ read_command new.progress ended (grown more new.input)
  pub ended : new.ended ≡ old.ended
  pub came : came new ≡ came old

abbrev pub TellsNext : Result Next StreamFault → Reading → Reading → Type 0
TellsNext (Ok (nexts.Command p)) old new =
    (next_command old ≡ Ok (record { command = Some p; progress = new.progress }, new.input)) × (new.ended ≡ old.ended)
TellsNext (Ok nexts.More) old new = ((w : Wanted) × (next_command old ≡ Err (stops.More w))) × IsBefore old new
TellsNext (Ok nexts.Ended) old new =
    (next_command old ≡ Ok (record { command = None; progress = new.progress }, new.input)) × (new.ended ≡ old.ended)
TellsNext (Err f) old new = (f ≡ OutOfMemory) ⊎ ((next_command old ≡ Err (stops.Fault f)) × IsBefore old new)

abbrev pub OnCommand : Result Next StreamFault → Type 0 → Type 0
OnCommand (Ok (nexts.Command p)) t = t
OnCommand (Ok nexts.More) t = Unit {0}
OnCommand (Ok nexts.Ended) t = Unit {0}
OnCommand (Err f) t = Unit {0}

abbrev pub OnMore : Result Next StreamFault → Type 0 → Type 0
OnMore (Ok (nexts.Command p)) t = Unit {0}
OnMore (Ok nexts.More) t = t
OnMore (Ok nexts.Ended) t = Unit {0}
OnMore (Err f) t = Unit {0}

-- the verdict of all that is left, where more follows and then the end
abbrev pub verdict_with : Bytes → Reading → Verdict
verdict_with more r = verdict_from r.progress (grown more r.input)

-- what is told stands in front of the verdict of what is left, whatever follows
abbrev pub StandsBefore : Result Next StreamFault → Verdict → Verdict → Type 0
StandsBefore (Ok (nexts.Command p)) old new = old ≡ with_command p new
StandsBefore (Ok nexts.More) old new = old ≡ new
StandsBefore (Ok nexts.Ended) old new = old ≡ stopped None
StandsBefore (Err f) old new = (f ≡ OutOfMemory) ⊎ (old ≡ stopped (Some f))

abbrev pub Follows : Result Next StreamFault → Reading → Reading → Type 0
Follows result old new = (more : Bytes) → MayFollow old more true → StandsBefore result (verdict_with more old) (verdict_with more new)

-- what one line or one command tells, of what a lexer holds
abbrev pub TellsTurn : Result Event Halt → Reading → Reading → Type 0
TellsTurn (Ok e) old new =
    (turn old.progress old.ended old.input ≡ Ok (record { event = e; progress = new.progress }, new.input)) × (new.ended ≡ old.ended)
TellsTurn (Err halts.Memory) old new = Unit {0}
TellsTurn (Err (halts.More w)) old new = (turn old.progress old.ended old.input ≡ Err (stops.More w)) × (new ≡ old)
TellsTurn (Err (halts.Fault f)) old new = (turn old.progress old.ended old.input ≡ Err (stops.Fault f)) × (new ≡ old)
