-- The commands that a stream spells from its start, and how it ends.
use Rattle.std.specs.Prelude.{◌+◌, ◌*◌, ℕ, zero, suc, Bool, true, false, List, [], ◌∷◌, length, Option, Some, None, Ok, Err}
use Rattle.std.specs.List.{concat}
use Rattle.git_objects.specs.Paths.{Bytes}
use Rattle.stream_lex.specs.Lines.{Input}
use Rattle.stream_lex.specs.Cutting.{grown}
use Rattle.stream_reader.specs.declared.fault.StreamFault.{StreamFault}
use Rattle.stream_lex.specs.declared.stop.Stop.{Stop}
use Rattle.stream_lex.specs.declared.stop.Stop.TheVariants as stops
use Rattle.stream_reader.specs.declared.command.Placed.{Placed}
use Rattle.stream_reader.specs.declared.progress.Phase.{Phase}
use Rattle.stream_reader.specs.declared.progress.Phase.TheVariants.{Between, InCommit, Finished}
use Rattle.stream_reader.specs.declared.progress.Progress.{Progress}
use Rattle.stream_reader.specs.Reading.{Read}
use Rattle.stream_reader.specs.Commands.{Told, read_command}

-- the commands in order, and the fault behind them, or none at the end of the stream
pub record Verdict : Type 0 where
  pub commands : List Placed
  pub fault : Option StreamFault

abbrev pub stopped : Option StreamFault → Verdict
stopped f = record { commands = []; fault = f }

abbrev pub with_command : Placed → Verdict → Verdict
with_command c v = record { commands = c ∷ v.commands; fault = v.fault }

abbrev pub halted : Stop StreamFault → Verdict
halted (stops.Fault f) = stopped (Some f)
halted (stops.More w) = stopped None

abbrev pub told_then : (Progress → Input → Verdict) → Option Placed → Progress → Input → Verdict
told_then later (Some c) p i = with_command c (later p i)
told_then later None p i = stopped None

abbrev pub go_on : (Progress → Input → Verdict) → Read Told → Verdict
go_on later (Ok x) = told_then later x.0.command x.0.progress x.1
go_on later (Err e) = halted e

-- at most n commands
abbrev pub verdict_within : ℕ → Progress → Input → Verdict
verdict_within zero p i = stopped None
verdict_within (suc n) p i = go_on (verdict_within n) (read_command p true i)

abbrev pub weight : Phase → ℕ
weight Between = 1
weight InCommit = 2
weight Finished = 0

-- each command lowers this
abbrev pub size : Progress → Input → ℕ
size p i = 2 * length i.rest + weight p.phase

-- the verdict of what is left
unfoldable pub verdict_from : Progress → Input → Verdict
verdict_from p i = verdict_within (size p i + 1) p i

-- where the reading of a stream begins, unless a caller wants `done` from the start; whether the command `tag` is read
abbrev pub start_in : Bool → Progress
start_in t = record { phase = Between; manner = record { wants_done = false; takes_tags = t } }

abbrev pub start : Progress
start = start_in false

abbrev pub tagged_start : Progress
tagged_start = start_in true

abbrev pub from_start : Bytes → Input
from_start b = record { at = 0; rest = b }

-- The verdict of a whole stream, read from a start.
abbrev pub verdict : Progress → Bytes → Verdict
verdict p b = verdict_from p (from_start b)

-- ---- the same in pieces

abbrev pub or_next : Verdict → Verdict → Read Told → Verdict
or_next told next (Err (stops.More w)) = next
or_next told next _ = told

-- What is told where pieces come one by one, each as soon as more is wanted, and then the end; in at most n turns.
abbrev pub told_within : ℕ → List Bytes → Progress → Input → Verdict
told_within zero ps p i = stopped None
told_within (suc n) [] p i = go_on (told_within n []) (read_command p true i)
told_within (suc n) (x ∷ ps) p i =
    or_next (go_on (told_within n (x ∷ ps)) (read_command p false i)) (told_within n ps p (grown x i)) (read_command p false i)

abbrev pub turns : List Bytes → Progress → Input → ℕ
turns ps p i = size p (grown (concat ps) i) + length ps

-- What is told of a stream in pieces, read from a start.
abbrev pub told : Progress → List Bytes → Verdict
told p ps = told_within (turns ps p (from_start []) + 1) ps p (from_start [])
