-- A stream that is read without tags gives none.
use Rattle.std.specs.Prelude.{◌≡◌, refl, ℕ, zero, suc, ◌+◌, Bool, true, false, length, Option, Some, None, Ok, Err}
use Rattle.std.specs.List.{list_all}
use Rattle.std.proofs.Common.{inl, inr, ap, ◌∙◌, sym, true≢false}
use Rattle.std.proofs.lemmas.Bool.{and_from}
use Rattle.git_objects.specs.Paths.{Bytes}
use Rattle.git_objects.specs.Results.{◌>>=◌}
use Rattle.stream_lex.specs.Lines.{Input}
use Rattle.stream_lex.specs.declared.stop.Stop.TheVariants as stops
use Rattle.stream_reader.specs.declared.command.Command.{Command}
use Rattle.stream_reader.specs.declared.command.Command.TheVariants as commands
use Rattle.stream_reader.specs.declared.command.Placed.{Placed}
use Rattle.stream_reader.specs.declared.progress.Event.{Event}
use Rattle.stream_reader.specs.declared.progress.Event.TheVariants.{Gives, Skips, Ends}
use Rattle.stream_reader.specs.declared.progress.Manner.{Manner}
use Rattle.stream_reader.specs.declared.progress.Phase.{Phase}
use Rattle.stream_reader.specs.declared.progress.Phase.TheVariants.{Between, InCommit, Finished}
use Rattle.stream_reader.specs.declared.progress.Progress.{Progress}
use Rattle.stream_reader.specs.Commands.{Told, Turn, by_event, command_within, read_command, turn, turn_on}
use Rattle.stream_reader.specs.Reading.{Read, Reader}
use Rattle.stream_reader.specs.Spelling.{Passes, Spells}
use Rattle.stream_reader.specs.Verdicts.{Verdict, from_start, go_on, start, told_then, verdict, verdict_from, verdict_within}
use Rattle.stream_reader.proofs.SpelledTurns.{EventSpelled, TurnSpelled, turn_spelled}

-- whether a command is no tag
abbrev pub is_untagged : Command → Bool
is_untagged (commands.Tag h) = false
is_untagged c = true

-- ---- one line or one command

spelled-untagged : (c : Command) (f : Phase) (d : Manner) (i : Input) (at : ℕ) (j : Input) → d.takes_tags ≡ false → Spells d f i at c j → is_untagged c ≡ true
spelled-untagged (commands.Blob m b) f d i at j e s = refl
spelled-untagged (commands.Commit h) f d i at j e s = refl
spelled-untagged (commands.Change c) f d i at j e s = refl
spelled-untagged commands.CommitEnd f d i at j e s = refl
spelled-untagged (commands.Reset r t) f d i at j e s = refl
spelled-untagged (commands.Tag h) Between d i at j e s = absurd (true≢false (sym s.0 ∙ e))
spelled-untagged (commands.Tag h) InCommit d i at j e s = absurd s
spelled-untagged (commands.Tag h) Finished d i at j e s = absurd s
spelled-untagged commands.Done f d i at j e s = refl

passes-untagged : (i : Input) (d : Manner) (j : Input) (m : Manner) → d.takes_tags ≡ false → Passes i d j m → m.takes_tags ≡ false
passes-untagged i d j m e s =
    elim s.2 [
      | inl k ↦ ap (λ (x : Manner). x.takes_tags) k.1 ∙ e
      | inr k ↦ ap (λ (x : Manner). x.takes_tags) k.1 ∙ e
    ]

-- no tag is given, and none is read behind
abbrev EventUntagged : Event → Progress → Type 0
EventUntagged (Gives c) q = (is_untagged c.command ≡ true) × (q.manner.takes_tags ≡ false)
EventUntagged Skips q = q.manner.takes_tags ≡ false
EventUntagged Ends q = Unit {0}

event-untagged : (p : Progress) (i : Input) (x : Event) (q : Progress) (j : Input) → p.manner.takes_tags ≡ false → EventSpelled p i x q j → EventUntagged x q
event-untagged p i (Gives c) q j e s =
    (spelled-untagged c.command p.phase p.manner i c.at j e s.0, ap (λ (x : Progress). x.manner.takes_tags) s.1 ∙ e)
event-untagged p i Skips q j e s = passes-untagged i p.manner j q.manner e s.2
event-untagged p i Ends q j e s = tt

-- ---- the next command

abbrev ToldUntagged : Option Placed → Progress → Type 0
ToldUntagged None q = Unit {0}
ToldUntagged (Some c) q = (is_untagged c.command ≡ true) × (q.manner.takes_tags ≡ false)

abbrev ReadUntagged : Read Told → Type 0
ReadUntagged (Ok x) = ToldUntagged x.0.command x.0.progress
ReadUntagged (Err e) = Unit {0}

module _ (next : Progress → Reader Told) (later : (q : Progress) (j : Input) → q.manner.takes_tags ≡ false → ReadUntagged (next q true j)) where
  event-read : (x : Event) (q : Progress) (j : Input) → EventUntagged x q → ReadUntagged (by_event next x q true j)
  event-read (Gives c) q j h = h
  event-read Skips q j h = later q j h
  event-read Ends q j h = tt

  turn-read : (p : Progress) (i : Input) (r : Read Turn) → p.manner.takes_tags ≡ false → TurnSpelled p i r → ReadUntagged (r >>= λ x. turn_on next x.0 true x.1)
  turn-read p i (Ok x) e s = event-read x.0.event x.0.progress x.1 (event-untagged p i x.0.event x.0.progress x.1 e s)
  turn-read p i (Err f) e s = tt

within-untagged : (n : ℕ) (p : Progress) (i : Input) → p.manner.takes_tags ≡ false → ReadUntagged (command_within n p true i)
within-untagged zero p i e = tt
within-untagged (suc n) p i e = turn-read (command_within n) (within-untagged n) p i (turn p true i) e (turn_spelled p i)

command-untagged : (p : Progress) (i : Input) → p.manner.takes_tags ≡ false → ReadUntagged (read_command p true i)
unfolding read_command
command-untagged p i e = within-untagged (length i.rest + 1) p i e

-- ---- a whole stream

abbrev AreUntagged : Verdict → Type 0
AreUntagged v = list_all (λ p. is_untagged p.command) v.commands ≡ true

module _ (next : Progress → Input → Verdict) (later : (q : Progress) (j : Input) → q.manner.takes_tags ≡ false → AreUntagged (next q j)) where
  told-untagged : (o : Option Placed) (q : Progress) (j : Input) → ToldUntagged o q → AreUntagged (told_then next o q j)
  told-untagged None q j h = refl
  told-untagged (Some c) q j h = and_from (is_untagged c.command) (list_all (λ p. is_untagged p.command) (next q j).commands) h.0 (later q j h.1)

  read-untagged : (r : Read Told) → ReadUntagged r → AreUntagged (go_on next r)
  read-untagged (Ok x) h = told-untagged x.0.command x.0.progress x.1 h
  read-untagged (Err (stops.Fault f)) h = refl
  read-untagged (Err (stops.More w)) h = refl

all-untagged : (n : ℕ) (p : Progress) (i : Input) → p.manner.takes_tags ≡ false → AreUntagged (verdict_within n p i)
all-untagged zero p i e = refl
all-untagged (suc n) p i e = read-untagged (verdict_within n) (all-untagged n) (read_command p true i) (command-untagged p i e)

from-untagged : (p : Progress) (i : Input) → p.manner.takes_tags ≡ false → AreUntagged (verdict_from p i)
unfolding verdict_from
from-untagged p i e = all-untagged _ p i e

-- the commands of a stream that is read from `start`
pub untagged : (input : Bytes) → list_all (λ p. is_untagged p.command) (verdict start input).commands ≡ true
untagged input = from-untagged start (from_start input) refl
