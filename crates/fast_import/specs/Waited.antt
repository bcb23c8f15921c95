-- How far a stream is read before it is known what becomes of it.
use Rattle.std.specs.Prelude.{◌≡◌, Bool, false, ◌+◌, ◌≤◌, ℕ, zero, suc, true, length, OnOk, IfSome, Option, Some, None, Result, Ok, Err, ◌^◌}
use Rattle.std.specs.Io.KnownBytes.{Consumes}
use Rattle.git_objects.specs.Lists.{Each}
use Rattle.git_objects.specs.Paths.{Bytes}
use Rattle.stream_lex.specs.Cutting.{place}
use Rattle.stream_lex.specs.Lines.{Input}
use Rattle.stream_lex.specs.declared.stop.Stop.TheVariants as stops
use Rattle.stream_reader.specs.Commands.{Told, read_command}
use Rattle.stream_reader.specs.Reading.{Read}
use Rattle.stream_reader.specs.Verdicts.{from_start, size, start, start_in, verdict}
use Rattle.stream_reader.specs.Waited.{awaited, fault_place}
use Rattle.stream_reader.specs.declared.command.Command.{Command}
use Rattle.stream_reader.specs.declared.command.Command.TheVariants as commands
use Rattle.stream_reader.specs.declared.command.Placed.{Placed}
use Rattle.stream_reader.specs.declared.fault.StreamFault.{StreamFault}
use Rattle.stream_reader.specs.declared.progress.Progress.{Progress}
use Rattle.fast_import.specs.Replays.{Base, Replay, Replayed, nothing_yet, replay_in, step}

-- what one command makes of a replay
abbrev pub Step : Type 0
Step = Replay → Placed → Result Replay StreamFault

-- behind a command, or where it is refused
abbrev pub waited_on : (Replay → Progress → Input → ℕ) → Progress → Input → Result Replay StreamFault → ℕ
waited_on next p i (Ok r) = next r p i
waited_on next p i (Err f) = awaited p.phase i

abbrev pub waited_behind : (Replay → Progress → Input → ℕ) → Step → Replay → Option Placed → Progress → Input → ℕ
waited_behind next one r (Some c) p i = waited_on next p i (one r c)
waited_behind next one r None p i = i.at

abbrev pub waited_told : (Replay → Progress → Input → ℕ) → Step → Replay → Read Told → ℕ
waited_told next one r (Ok x) = waited_behind next one r x.0.command x.0.progress x.1
waited_told next one r (Err (stops.Fault f)) = fault_place f
waited_told next one r (Err (stops.More w)) = place w

-- of at most n commands
abbrev pub waited_within : ℕ → Step → Replay → Progress → Input → ℕ
waited_within zero one r p i = i.at
waited_within (suc n) one r p i = waited_told (waited_within n one) one r (read_command p true i)

-- of what is left
unfoldable pub waited_from : Step → Replay → Progress → Input → ℕ
waited_from one r p i = waited_within (size p i + 1) one r p i

-- The place up to which a stream has to be read, which is read by such a `Progress` from its start: of a fault of reading, its
-- place; of a command that is refused, the place of the next line behind it that is no comment, or the input's length where
-- there is none; else the place behind the line `done`, or the input's length where there is no such line.
abbrev pub waited_in : Progress → Base → Bytes → ℕ
waited_in begins base all = waited_from (step base) nothing_yet begins (from_start all)

abbrev pub waited : Base → Bytes → ℕ
waited base all = waited_in start base all

-- A source that tells has given at most 2^25 bytes behind that place, and no fewer than up to it where the stream was
-- replayed.
abbrev pub IsTakenIn : {A E : Type 0} → Progress → Base → Option Bytes → Option Bytes → Result A E → Type 0
IsTakenIn begins base before after result =
    IfSome before (λ all. (given : Bytes) × Consumes before after given × (length given ≤ waited_in begins base all + 33554432) × OnOk result (waited_in begins base all ≤ length given))

abbrev pub IsTaken : {A E : Type 0} → Base → Option Bytes → Option Bytes → Result A E → Type 0
IsTaken base before after result = IsTakenIn start base before after result

-- at most 2^29 bytes of a source are taken, and one more
abbrev pub TakesWithin : Option Bytes → Option Bytes → Type 0
TakesWithin before after = (given : Bytes) × (length given ≤ 2 ^ 29 + 1) × Consumes before after given

abbrev pub is_done : Command → Bool
is_done commands.Done = true
is_done c = false

-- A stream that is replayed, with its tags or without, is read to its end where it has no command `done`.
abbrev pub WaitedLaw : Type 0
WaitedLaw =
    (tags : Bool) (base : Base) (all : Bytes) (g : Replayed) → replay_in (start_in tags) base all ≡ Ok g →
    Each (λ p. is_done p.command ≡ false) (verdict (start_in tags) all).commands → waited_in (start_in tags) base all ≡ length all
