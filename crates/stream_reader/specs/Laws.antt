-- Laws of reading a stream.
use Rattle.std.specs.Prelude.{◌≡◌, ◌⊎◌, ◌↔◌, ℕ, Bool, true, List, None, Result, Ok, Err, Option}
use Rattle.std.specs.List.{concat}
use Rattle.git_objects.specs.Paths.{Bytes}
use Rattle.stream_lex.specs.Lines.{Input}
use Rattle.stream_reader.specs.declared.fault.StreamFault.{StreamFault}
use Rattle.stream_reader.specs.declared.fault.StreamFault.TheVariants.{OutOfMemory}
use Rattle.stream_lex.specs.declared.stop.Stop.TheVariants as stops
use Rattle.stream_reader.specs.declared.command.Placed.{Placed}
use Rattle.stream_reader.specs.declared.progress.Event.TheVariants.{Gives, Skips, Ends}
use Rattle.stream_reader.specs.declared.progress.Manner.{Manner}
use Rattle.stream_reader.specs.declared.progress.Phase.TheVariants.{Between}
use Rattle.stream_reader.specs.declared.progress.Progress.{Progress}
use Rattle.stream_reader.specs.declared.reader.Next.{Next}
use Rattle.stream_lex.specs.Cutting.{IsReader}
use Rattle.stream_lex.specs.Cutting.{◌then◌}
use Rattle.stream_reader.specs.Heads.{blob, head, reset, tag}
use Rattle.stream_reader.specs.Changes.{ChangeLine, change}
use Rattle.stream_reader.specs.Commands.{turn, turn_on, read_command}
use Rattle.stream_reader.specs.Spelling.{Spells, Passes, behind, EndsHere, SpellsAll}
use Rattle.stream_reader.specs.Verdicts.{verdict_from, go_on, from_start, verdict, told}
use Rattle.stream_reader.specs.Readers.{Reading, next_command, IsBefore, fed, MayFollow, TellsNext}

-- Each reader of the grammar is one, so that what was told before more came is told again. The verdict of a whole stream
-- is its commands one by one, and each cutting into pieces tells the same.
pub record VerdictLaw : Type 0 where
  pub blob_is : IsReader blob
  pub head_is : (at : ℕ) (t : Bytes) → IsReader (head at t)
  pub reset_is : (at : ℕ) (t : Bytes) → IsReader (reset at t)
  pub tag_is : (at : ℕ) (t : Option Bytes) → IsReader (tag at t)
  pub change_is : (at : ℕ) (l : ChangeLine) → IsReader (change at l)
  pub turn_is : (p : Progress) → IsReader (turn p)
  pub command_is : (p : Progress) → IsReader (read_command p)
  pub one_by_one : (p : Progress) (i : Input) → verdict_from p i ≡ go_on verdict_from (read_command p true i)
  pub pieces : (p : Progress) (pieces : List Bytes) → told p pieces ≡ verdict p (concat pieces)

-- Behind a fault the next answer is this fault again, whatever is fed between, want of memory apart.
abbrev pub FaultLaw : Type 0
FaultLaw =
    (f : StreamFault) (old new later : Reading) (more : Bytes) (ended : Bool) (answer : Result Next StreamFault) →
    next_command old ≡ Err (stops.Fault f) → IsBefore old new → MayFollow old more ended →
    TellsNext answer (fed more ended new) later → (answer ≡ Err f) ⊎ (answer ≡ Err OutOfMemory)

-- Of a whole stream, one line or one command is told exactly where it is spelled, and a fault only where nothing is. The
-- next command is that of the next line or command, behind lines that give none.
pub record SpellingLaw : Type 0 where
  -- a whole stream without a fault
  pub whole : (p : Progress) (b : Bytes) (cs : List Placed) → (verdict p b ≡ record { commands = cs; fault = None }) ↔ SpellsAll cs p (from_start b)
  -- one command
  pub spelled : (p q : Progress) (i j : Input) (c : Placed) → turn p true i ≡ Ok (record { event = Gives c; progress = q }, j) →
      Spells p.manner p.phase i c.at c.command j × (q ≡ behind p c.command)
  pub read : (p : Progress) (i j : Input) (c : Placed) → Spells p.manner p.phase i c.at c.command j →
      turn p true i ≡ Ok (record { event = Gives c; progress = behind p c.command }, j)
  -- one line that gives none
  pub passed : (p q : Progress) (i j : Input) → turn p true i ≡ Ok (record { event = Skips; progress = q }, j) →
      (p.phase ≡ Between) × (q.phase ≡ Between) × Passes i p.manner j q.manner
  pub passes : (d e : Manner) (i j : Input) → Passes i d j e →
      turn (record { phase = Between; manner = d }) true i ≡ Ok (record { event = Skips; progress = record { phase = Between; manner = e } }, j)
  -- the end
  pub ended : (p q : Progress) (i j : Input) → turn p true i ≡ Ok (record { event = Ends; progress = q }, j) → EndsHere p i
  -- a fault
  pub fault : (p : Progress) (i : Input) (f : StreamFault) → turn p true i ≡ Err (stops.Fault f) →
      ((j : Input) (c : Placed) → ¬ Spells p.manner p.phase i c.at c.command j) × ((cs : List Placed) → ¬ SpellsAll cs p i)
  pub next : (p : Progress) (ended : Bool) (i : Input) → read_command p ended i ≡ (turn p then turn_on read_command) ended i
