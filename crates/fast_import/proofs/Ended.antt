-- A stream without the line `done` is read to its end.
use Rattle.std.proofs.Common.{◌≡◌, ◌+◌, ◌<◌, ℕ, zero, suc, Bool, true, false, [], length, Option, Some, None, Result, Ok, Err, refl, sym, ap, ◌∙◌, arith, subst}
use Rattle.git_objects.specs.Lists.{Each}
use Rattle.git_objects.specs.Paths.{Bytes}
use Rattle.git_objects.specs.Results.{◌>>=◌}
use Rattle.stream_lex.specs.Cutting.{◌then◌, Steps}
use Rattle.stream_lex.specs.Lines.{Input, Lex, Line, line_at}
use Rattle.stream_lex.specs.declared.stop.Stop.TheVariants.{More, Fault}
use Rattle.stream_lex.proofs.Spelled.{Spelled, line_at-spelled}
use Rattle.stream_reader.specs.Changes.{ChangeLine, ModifyIs, DeleteIs, RenameIs, CopyIs, DeleteAllIs, NotesAre, EmptyIs, NoChange, change, change_line}
use Rattle.stream_reader.specs.Commands.{CommandLine, EmptyLine, BlobLine, CommitLine, ResetLine, TagLine, IdleLine, WantsDone, DoneLine, RefusedLine, OtherLine, Told, Turn, ends_at, tag_turn, between, between_at, by_event, changed, command_line, gives, in_commit_at, read_command, turn, turn_in, turn_on}
use Rattle.stream_reader.specs.Heads.{blob, head, reset, tag}
use Rattle.stream_reader.specs.Reading.{Read, lifted}
use Rattle.stream_reader.specs.Verdicts.{Verdict, from_start, go_on, size, start_in, verdict_from}
use Rattle.stream_reader.specs.declared.command.Command.{Command}
use Rattle.stream_reader.specs.declared.command.Command.TheVariants as commands
use Rattle.stream_reader.specs.declared.command.Placed.{Placed}
use Rattle.stream_reader.specs.declared.fault.StreamFault.{StreamFault}
use Rattle.stream_reader.specs.declared.progress.Event.{Event}
use Rattle.stream_reader.specs.declared.progress.Event.TheVariants.{Gives, Skips, Ends}
use Rattle.stream_reader.specs.declared.progress.Manner.{Manner}
use Rattle.stream_reader.specs.declared.progress.Phase.{Phase}
use Rattle.stream_reader.specs.declared.progress.Phase.TheVariants.{Between, InCommit, Finished}
use Rattle.stream_reader.specs.declared.progress.Progress.{Progress}
use Rattle.stream_reader.proofs.Commanding.{CommandLowers, IfCommand, command-is, command-reader, command_lowers}
use Rattle.stream_reader.proofs.Iterating.{verdict-is}
use Rattle.stream_reader.proofs.Lowering.{Lowers, TurnLowers, turn_lowers}
use Rattle.stream_reader.proofs.Reading.{came_along}
use Rattle.fast_import.specs.Replays.{Replay, Replayed, gone_on, nothing_yet, outcome_of, ran_in, ran_by, step}
use Rattle.fast_import.specs.Waited.{Step, WaitedLaw, is_done, waited_behind, waited_from, waited_on, waited_told}
use Rattle.fast_import.proofs.Taking.{waited-is}

-- `done` wasn't read
abbrev IsOpen : Phase → Type 0
IsOpen Between = Unit {0}
IsOpen InCommit = Unit {0}
IsOpen Finished = ⊥

abbrev IsPlain : Event → Phase → Input → Type 0
IsPlain (Gives c) p j = is_done c.command ≡ false → IsOpen p
IsPlain Skips p j = IsOpen p
IsPlain Ends p j = j.rest ≡ []

abbrev PlainTurn : Read Turn → Type 0
PlainTurn (Ok x) = IsPlain x.0.event x.0.progress.phase x.1
PlainTurn (Err e) = Unit {0}

-- ---- one line or one command

given_plain : (at : ℕ) (p : Phase) (d : Manner) → IsOpen p → (r : Read Command) → PlainTurn (r >>= λ x. gives at p d x.0 true x.1)
given_plain at p d h (Ok x) = λ q. h
given_plain at p d h (Err e) = tt

module _ (d : Manner) where
  tag_plain : (t : Option Bytes) (at : ℕ) (i : Input) (b : Bool) → PlainTurn (tag_turn at t d b true i)
  tag_plain t at i true = given_plain at Between d tt (tag at t true i)
  tag_plain t at i false = tt

  between_plain : (k : CommandLine) (at : ℕ) (i : Input) → PlainTurn (between k at d true i)
  between_plain EmptyLine at i = tt
  between_plain BlobLine at i = given_plain at Between d tt (blob true i)
  between_plain (CommitLine t) at i = given_plain at InCommit d tt (head at t true i)
  between_plain (ResetLine t) at i = given_plain at Between d tt (reset at t true i)
  between_plain (TagLine t) at i = tag_plain t at i d.takes_tags
  between_plain IdleLine at i = tt
  between_plain WantsDone at i = tt
  between_plain DoneLine at i = λ q. let no : ⊥ = cc in absurd no
  between_plain (RefusedLine f) at i = tt
  between_plain OtherLine at i = tt

  end_plain : (e : Bool) (at : ℕ) (i : Input) → i.rest ≡ [] → PlainTurn (ends_at at d e true i)
  end_plain true at i h = tt
  end_plain false at i h = h

  line_plain : (i : Input) (r : Lex (Option Line)) → Spelled true i r → PlainTurn (lifted r >>= between_at d true)
  line_plain i (Ok (Some l, j)) h = between_plain (command_line l.bytes) l.place j
  line_plain i (Ok (None, j)) h = end_plain d.wants_done j.at j h.0.nothing
  line_plain i (Err e) h = tt

  change_plain : (k : ChangeLine) (at : ℕ) (i : Input) → PlainTurn ((change at k then λ c. gives at InCommit d (commands.Change c)) true i)
  change_plain k at i = by (change at k true i)
    where
      by : (r : Read Rattle.stream_reader.specs.declared.command.Change.Change) → PlainTurn (r >>= λ x. gives at InCommit d (commands.Change x.0) true x.1)
      by (Ok x) = λ q. tt
      by (Err e) = tt

  changed_plain : (k : ChangeLine) (at : ℕ) (before i : Input) → PlainTurn (changed k at d true before i)
  changed_plain EmptyIs at before i = λ q. tt
  changed_plain NoChange at before i = λ q. tt
  changed_plain (ModifyIs t) at before i = change_plain (ModifyIs t) at i
  changed_plain (DeleteIs t) at before i = change_plain (DeleteIs t) at i
  changed_plain (RenameIs t) at before i = change_plain (RenameIs t) at i
  changed_plain (CopyIs t) at before i = change_plain (CopyIs t) at i
  changed_plain DeleteAllIs at before i = change_plain DeleteAllIs at i
  changed_plain NotesAre at before i = change_plain NotesAre at i

  commit_plain : (i : Input) (r : Lex (Option Line)) → PlainTurn (lifted r >>= in_commit_at d true i)
  commit_plain i (Ok (Some l, j)) = changed_plain (change_line l.bytes) l.place i j
  commit_plain i (Ok (None, j)) = λ q. tt
  commit_plain i (Err e) = tt

  phase_plain : (p : Phase) (i : Input) → IsOpen p → PlainTurn (turn_in p d true i)
  phase_plain Between i h = line_plain i (line_at true i) (line_at-spelled true i)
  phase_plain InCommit i h = commit_plain i (line_at true i)
  phase_plain Finished i h = absurd h

turn_plain : (p : Progress) (i : Input) → IsOpen p.phase → PlainTurn (turn p true i)
unfolding turn
turn_plain p i h = phase_plain p.manner p.phase i h

-- ---- the next command

abbrev PlainBehind : Option Placed → Phase → Input → Type 0
PlainBehind (Some c) p j = is_done c.command ≡ false → IsOpen p
PlainBehind None p j = j.rest ≡ []

abbrev PlainTold : Read Told → Type 0
PlainTold (Ok x) = PlainBehind x.0.command x.0.progress.phase x.1
PlainTold (Err e) = Unit {0}

event_plain : (p : Progress) (i : Input) → ((q : Progress) (j : Input) → length j.rest < length i.rest → IsOpen q.phase → PlainTold (read_command q true j)) →
    (e : Event) (q : Progress) (j : Input) → Lowers p i e q j → IsPlain e q.phase j → PlainTold (by_event read_command e q true j)
event_plain p i next (Gives c) q j l h = h
event_plain p i next Skips q j l h = next q j l.0 h
event_plain p i next Ends q j l h = h

turned_plain : (p : Progress) (i : Input) → ((q : Progress) (j : Input) → length j.rest < length i.rest → IsOpen q.phase → PlainTold (read_command q true j)) →
    (r : Read Turn) → TurnLowers p i r → PlainTurn r → PlainTold (r >>= λ x. turn_on read_command x.0 true x.1)
turned_plain p i next (Ok x) l h = event_plain p i next x.0.event x.0.progress x.1 l h
turned_plain p i next (Err e) l h = tt

told_plain_within : (n : ℕ) (p : Progress) (i : Input) → length i.rest < n → IsOpen p.phase → PlainTold (read_command p true i)
told_plain_within zero p i h o = absurd (omega arith)
told_plain_within (suc n) p i h o =
    subst PlainTold (sym (command-is p true i)) (turned_plain p i (λ q j k. told_plain_within n q j (omega (arith, h, k))) (turn p true i) (turn_lowers p true i) (turn_plain p i o))

told_plain : (p : Progress) (i : Input) → IsOpen p.phase → PlainTold (read_command p true i)
told_plain p i o = told_plain_within (length i.rest + 1) p i (omega arith) o

-- ---- a whole stream

module _ (one : Step) where
  -- the replay of a verdict has no fault
  abbrev IsFine : Replay → Verdict → Type 0
  IsFine r v = (ran_by one v.fault r v.commands).fault ≡ None

  abbrev IsOpenIn : Verdict → Type 0
  IsOpenIn v = Each (λ p. is_done p.command ≡ false) v.commands

  on_end : (r : Replay) (c : Placed) (v : Verdict) (q : Progress) (j : Input) (n : ℕ) → ((s : Replay) → IsFine s v → waited_from one s q j ≡ n) → (x : Result Replay StreamFault) →
      (gone_on c r (λ s. ran_by one v.fault s v.commands) x).fault ≡ None → waited_on (waited_from one) q j x ≡ n
  on_end r c v q j n next (Ok s) h = next s h
  on_end r c v q j n next (Err f) h = let no : ⊥ = cc in absurd no

  behind_end : (r : Replay) (p : Progress) (i : Input) → ((s : Replay) (q : Progress) (j : Input) → size q j < size p i → IsOpen q.phase → IsFine s (verdict_from q j) → IsOpenIn (verdict_from q j) → waited_from one s q j ≡ j.at + length j.rest) →
      (c : Option Placed) (q : Progress) (j : Input) → IfCommand c (size q j < size p i) → PlainBehind c q.phase j →
      IsFine r (go_on verdict_from (Ok (record { command = c; progress = q }, j))) → IsOpenIn (go_on verdict_from (Ok (record { command = c; progress = q }, j))) → waited_behind (waited_from one) one r c q j ≡ j.at + length j.rest
  behind_end r p i next (Some c) q j l h fine plain =
      on_end r c (verdict_from q j) q j (j.at + length j.rest) (λ s k. next s q j l (h plain.0) k plain.1) (one r c) fine
  behind_end r p i next None q j l h fine plain = omega (arith, ap length h)

  told_end : (r : Replay) (p : Progress) (i : Input) → ((s : Replay) (q : Progress) (j : Input) → size q j < size p i → IsOpen q.phase → IsFine s (verdict_from q j) → IsOpenIn (verdict_from q j) → waited_from one s q j ≡ j.at + length j.rest) →
      (x : Read Told) → CommandLowers p i x → PlainTold x → Steps i x → Rattle.stream_lex.specs.Cutting.IsTold x → IsFine r (go_on verdict_from x) → IsOpenIn (go_on verdict_from x) → waited_told (waited_from one) one r x ≡ i.at + length i.rest
  told_end r p i next (Ok x) l h s t fine plain = behind_end r p i next x.0.command x.0.progress x.1 l h fine plain ∙ came_along i x.1 s
  told_end r p i next (Err (More w)) l h s t fine plain = absurd t
  told_end r p i next (Err (Fault f)) l h s t fine plain = let no : ⊥ = cc in absurd no

  end_within : (n : ℕ) (r : Replay) (p : Progress) (i : Input) → size p i < n → IsOpen p.phase → IsFine r (verdict_from p i) → IsOpenIn (verdict_from p i) → waited_from one r p i ≡ i.at + length i.rest
  end_within zero r p i k o fine plain = absurd (omega arith)
  end_within (suc n) r p i k o fine plain =
      waited-is one r p i
      ∙ told_end r p i (λ s q j g. end_within n s q j (omega (arith, k, g))) (read_command p true i) (command_lowers p true i) (told_plain p i o)
      ((command-reader p).steps true i) ((command-reader p).told i)
      (subst (IsFine r) (verdict-is p i) fine) (subst IsOpenIn (verdict-is p i) plain)

no_fault : (r : Replay) (f : Option StreamFault) (g : Replayed) → outcome_of r f ≡ Ok g → f ≡ None
no_fault r None g h = refl
no_fault r (Some f) g h = let no : ⊥ = cc in absurd no

pub waited_law : WaitedLaw
waited_law tags base all g h plain =
    omega (arith, end_within (step base) (size (start_in tags) (from_start all) + 1) nothing_yet (start_in tags) (from_start all) (omega arith) tt (no_fault (ran_in (start_in tags) base all).state (ran_in (start_in tags) base all).fault g h) plain)
