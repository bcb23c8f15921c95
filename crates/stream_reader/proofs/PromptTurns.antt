-- The next command is told near what it is told by.
use Rattle.std.proofs.Common.{◌≡◌, ◌+◌, ◌<◌, ◌≤◌, ℕ, zero, suc, Bool, true, false, length, Option, Some, Result, Ok, Err, refl, sym, ap, ◌∙◌, arith, subst}
use Rattle.git_objects.specs.Paths.{Bytes}
use Rattle.git_objects.specs.Results.{◌>>=◌}
use Rattle.git_objects.specs.declared.limits.TheConstants.{BLOB_BYTES, LINE_BYTES, STREAM_BYTES}
use Rattle.stream_lex.specs.Cutting.{◌then◌, IsReader, IsTold, grown, place, pure}
use Rattle.stream_lex.specs.Lines.{Input, Line}
use Rattle.stream_lex.specs.declared.stop.Stop.TheVariants.{More, Fault}
use Rattle.stream_lex.specs.declared.stop.Wanted.{Wanted}
use Rattle.stream_reader.specs.Changes.{ChangeLine, ModifyIs, DeleteIs, RenameIs, CopyIs, DeleteAllIs, NotesAre, EmptyIs, NoChange, change, change_line}
use Rattle.stream_reader.specs.Commands.{CommandLine, EmptyLine, BlobLine, CommitLine, ResetLine, TagLine, IdleLine, WantsDone, DoneLine, RefusedLine, OtherLine, Told, Turn, ends_at, tag_turn, between, between_at, by_event, changed, command_line, gives, in_commit_at, read_command, turn, turn_in, turn_on}
use Rattle.stream_reader.specs.Heads.{blob, head, reset, tag}
use Rattle.stream_reader.specs.Readers.{OnMore, Reading, TellsNext}
use Rattle.stream_reader.specs.Reading.{Read, Reader, lifted}
use Rattle.stream_reader.specs.Waited.{IsNear, awaited, fault_place, next_place, place_behind, told_place}
use Rattle.stream_reader.specs.declared.command.Command.{Command}
use Rattle.stream_reader.specs.declared.command.Command.TheVariants as commands
use Rattle.stream_reader.specs.declared.fault.StreamFault.{StreamFault}
use Rattle.stream_reader.specs.declared.progress.Event.{Event}
use Rattle.stream_reader.specs.declared.progress.Event.TheVariants.{Gives, Skips, Ends}
use Rattle.stream_reader.specs.declared.progress.Manner.{Manner}
use Rattle.stream_reader.specs.declared.progress.Phase.{Phase}
use Rattle.stream_reader.specs.declared.progress.Phase.TheVariants.{Between, InCommit, Finished}
use Rattle.stream_reader.specs.declared.progress.Progress.{Progress}
use Rattle.stream_reader.specs.declared.reader.Next.{Next}
use Rattle.stream_reader.specs.declared.reader.Next.TheVariants as nexts
use Rattle.stream_reader.proofs.Commanding.{command-is, command-reader}
use Rattle.stream_reader.proofs.Composed.{blob-reader, change-reader, head-reader, reset-reader, tag-reader}
use Rattle.stream_reader.proofs.Lowering.{TurnLowers, turn_lowers}
use Rattle.stream_reader.proofs.Placing.{ahead}
use Rattle.stream_reader.proofs.PromptCommands.{blob-prompt, change-prompt, head-prompt, reset-prompt, tag-prompt}
use Rattle.stream_reader.proofs.Prompting.{From, IsNearIn, IsPrompt, Later, bind_from, by_line, line_came, line_later, line_more, line_near, then_near}
use Rattle.stream_reader.proofs.Turning.{turn-reader}

abbrev EventLater : ℕ → Event → Phase → Input → Type 0
EventLater b (Gives c) p j = b ≤ awaited p j
EventLater b Skips p j = b ≤ awaited p j
EventLater b Ends p j = b ≤ j.at

abbrev TurnLater : ℕ → Turn → Input → Type 0
TurnLater b t j = EventLater b t.event t.progress.phase j

-- a turn that begins right behind its line
record IsTurn (at : ℕ) (f : Reader Turn) : Type 0 where
  later : (b : ℕ) (i : Input) → b ≤ at → at ≤ i.at → i.at ≤ STREAM_BYTES → From b (TurnLater b) (f true i)
  near : (i : Input) (w : Wanted) → i.at ≤ STREAM_BYTES → f false i ≡ Err (More w) → IsNearIn TurnLater f i w

at_front : (at : ℕ) (x : Turn) → ((b : ℕ) (i : Input) → b ≤ i.at → i.at ≤ STREAM_BYTES → TurnLater b x i) → IsTurn at (pure x)
at_front at x h = record { later = λ b i l m s. h b i (omega (arith, l, m)) s; near = λ i w s e. let no : ⊥ = cc in absurd no }

before_next : (b : ℕ) (i : Input) → b ≤ i.at → i.at ≤ STREAM_BYTES → b ≤ next_place i
before_next b i l s = omega (arith, l, ahead i s)

-- a command and the phase behind it
command_turn : (at line : ℕ) (p : Phase) (d : Manner) → ((j : Input) → awaited p j ≡ next_place j) → (f : Reader Command) → IsReader f → IsPrompt at f → IsTurn at (f then gives line p d)
command_turn at line p d same f r h = record {
  later = λ b i l m s. bind_from b (Later b) (TurnLater b) (f true i) (λ y. gives line p d y.0 true y.1) (h.later b i l (before_next b i (omega (arith, l, m)) s)) (λ c j n. subst (λ k. b ≤ k) (sym (same j)) n);
  near = λ i w s. then_near TurnLater f (gives line p d) r i w Later (h.near i) (λ c j e k. let no : ⊥ = cc in absurd no) (λ c j n. subst (λ k. place w ≤ k) (sym (same j)) n);
}

refused_turn : (f : StreamFault) → IsTurn (fault_place f) (Rattle.stream_lex.specs.Cutting.refuse f)
refused_turn f = record { later = λ b i l m s. omega (arith, l); near = λ i w s e. let no : ⊥ = cc in absurd no }

tag_turn-turn : (at : ℕ) (t : Option Bytes) (d : Manner) (b : Bool) → IsTurn at (tag_turn at t d b)
tag_turn-turn at t d true = command_turn at at Between d (λ j. refl) (tag at t) (tag-reader at t) (tag-prompt at t)
tag_turn-turn at t d false = refused_turn _

between-turn : (k : CommandLine) (at : ℕ) (d : Manner) → IsTurn at (between k at d)
between-turn EmptyLine at d = at_front at _ before_next
between-turn BlobLine at d = command_turn at at Between d (λ j. refl) blob blob-reader (blob-prompt at)
between-turn (CommitLine t) at d = command_turn at at InCommit d (λ j. refl) (head at t) (head-reader at t) (head-prompt at t)
between-turn (ResetLine t) at d = command_turn at at Between d (λ j. refl) (reset at t) (reset-reader at t) (reset-prompt at t)
between-turn (TagLine t) at d = tag_turn-turn at t d d.takes_tags
between-turn IdleLine at d = at_front at _ before_next
between-turn WantsDone at d = at_front at _ before_next
between-turn DoneLine at d = at_front at _ (λ b i l s. l)
between-turn (RefusedLine f) at d = refused_turn _
between-turn OtherLine at d = refused_turn _

module _ (d : Manner) where
  -- ---- between commands

  abbrev after_line : Bool → Input → Option Line × Input → Read Turn
  after_line ended i = between_at d ended

  end_later : (e : Bool) (b : ℕ) (j : Input) → b ≤ j.at → From b (TurnLater b) (ends_at j.at d e true j)
  end_later true b j h = omega (arith, h)
  end_later false b j h = h

  end_tells : (e : Bool) (ended : Bool) (j : Input) (w : Wanted) → ¬ (ends_at j.at d e ended j ≡ Err (More w))
  end_tells true ended j w h = cc
  end_tells false ended j w h = cc

  between_later : (b : ℕ) (i : Input) → b ≤ next_place i → From b (TurnLater b) (by_line after_line true i)
  between_later b i n = line_later TurnLater after_line b i n
      (λ l j e p m. (between-turn (command_line l.bytes) l.place d).later b j m p.to p.within)
      (λ j e s m. end_later d.wants_done b j m)

  between_near : (i : Input) (w : Wanted) → by_line after_line false i ≡ Err (More w) → IsNearIn TurnLater (by_line after_line) i w
  between_near i w = line_near TurnLater after_line i w between_later
      (λ l j e p k.
      let u = (between-turn (command_line l.bytes) l.place d).near j w p.within k in record {
        few = omega (arith, u.few, line_came i (Some l) j e);
        after = λ more. subst (From (place w) (TurnLater (place w))) (sym (ap (λ r. lifted r >>= between_at d true) (line_more i (Some l) j e more))) (u.after more);
      })
      (λ j e k. absurd (end_tells d.wants_done false j w k))

  -- ---- in a commit

  changing-turn : (k : ChangeLine) (at : ℕ) → IsTurn at (change at k then λ c. gives at InCommit d (commands.Change c))
  changing-turn k at = record {
    later = λ b i l m s. bind_from b (Later b) (TurnLater b) (change at k true i) (λ y. gives at InCommit d (commands.Change y.0) true y.1) ((change-prompt at k).later b i l (before_next b i (omega (arith, l, m)) s)) (λ c j n. n);
    near = λ i w s. then_near TurnLater (change at k) (λ c. gives at InCommit d (commands.Change c)) (change-reader at k) i w Later ((change-prompt at k).near i) (λ c j e k. let no : ⊥ = cc in absurd no) (λ c j n. n);
  }

  changed_later : (k : ChangeLine) (at b : ℕ) (i j : Input) → b ≤ next_place i → b ≤ at → at ≤ j.at → j.at ≤ STREAM_BYTES → From b (TurnLater b) (changed k at d true i j)
  changed_later EmptyIs at b i j n l m s = before_next b j (omega (arith, l, m)) s
  changed_later NoChange at b i j n l m s = n
  changed_later (ModifyIs t) at b i j n l m s = (changing-turn (ModifyIs t) at).later b j l m s
  changed_later (DeleteIs t) at b i j n l m s = (changing-turn (DeleteIs t) at).later b j l m s
  changed_later (RenameIs t) at b i j n l m s = (changing-turn (RenameIs t) at).later b j l m s
  changed_later (CopyIs t) at b i j n l m s = (changing-turn (CopyIs t) at).later b j l m s
  changed_later DeleteAllIs at b i j n l m s = (changing-turn DeleteAllIs at).later b j l m s
  changed_later NotesAre at b i j n l m s = (changing-turn NotesAre at).later b j l m s

  -- what a change waits for, whatever stands before it
  record IsChangeNear (k : ChangeLine) (at : ℕ) (i j : Input) (w : Wanted) : Type 0 where
    few : j.at + length j.rest ≤ place w + BLOB_BYTES
    after : (more : Bytes) → From (place w) (TurnLater (place w)) (changed k at d true (grown more i) (grown more j))

  change_near : (k : ChangeLine) (at : ℕ) (j : Input) (w : Wanted) → j.at ≤ STREAM_BYTES → (change at k then λ c. gives at InCommit d (commands.Change c)) false j ≡ Err (More w) → IsNearIn TurnLater (change at k then λ c. gives at InCommit d (commands.Change c)) j w
  change_near k at j w s e = (changing-turn k at).near j w s e

  changed_near : (k : ChangeLine) (at : ℕ) (i j : Input) (w : Wanted) → j.at ≤ STREAM_BYTES → changed k at d false i j ≡ Err (More w) → IsChangeNear k at i j w
  changed_near EmptyIs at i j w s e = let no : ⊥ = cc in absurd no
  changed_near NoChange at i j w s e = let no : ⊥ = cc in absurd no
  changed_near (ModifyIs t) at i j w s e = let u = change_near (ModifyIs t) at j w s e in record { few = u.few; after = u.after }
  changed_near (DeleteIs t) at i j w s e = let u = change_near (DeleteIs t) at j w s e in record { few = u.few; after = u.after }
  changed_near (RenameIs t) at i j w s e = let u = change_near (RenameIs t) at j w s e in record { few = u.few; after = u.after }
  changed_near (CopyIs t) at i j w s e = let u = change_near (CopyIs t) at j w s e in record { few = u.few; after = u.after }
  changed_near DeleteAllIs at i j w s e = let u = change_near DeleteAllIs at j w s e in record { few = u.few; after = u.after }
  changed_near NotesAre at i j w s e = let u = change_near NotesAre at j w s e in record { few = u.few; after = u.after }

  commit_later : (b : ℕ) (i : Input) → b ≤ next_place i → From b (TurnLater b) (by_line (in_commit_at d) true i)
  commit_later b i n = line_later TurnLater (in_commit_at d) b i n
      (λ l j e p m. changed_later (change_line l.bytes) l.place b i j n m p.to p.within)
      (λ j e s m. before_next b j m s)

  commit_near : (i : Input) (w : Wanted) → by_line (in_commit_at d) false i ≡ Err (More w) → IsNearIn TurnLater (by_line (in_commit_at d)) i w
  commit_near i w = line_near TurnLater (in_commit_at d) i w commit_later
      (λ l j e p k.
      let u = changed_near (change_line l.bytes) l.place i j w p.within k in record {
        few = omega (arith, u.few, line_came i (Some l) j e);
        after = λ more. subst (From (place w) (TurnLater (place w))) (sym (ap (λ r. lifted r >>= in_commit_at d true (grown more i)) (line_more i (Some l) j e more))) (u.after more);
      })
      (λ j e k. let no : ⊥ = cc in absurd no)

  phase_later : (p : Phase) (b : ℕ) (i : Input) → b ≤ awaited p i → From b (TurnLater b) (turn_in p d true i)
  phase_later Between b i n = between_later b i n
  phase_later InCommit b i n = commit_later b i n
  phase_later Finished b i n = n

  phase_near : (p : Phase) (i : Input) (w : Wanted) → turn_in p d false i ≡ Err (More w) → IsNearIn TurnLater (turn_in p d) i w
  phase_near Between i w e = between_near i w e
  phase_near InCommit i w e = commit_near i w e
  phase_near Finished i w e = let no : ⊥ = cc in absurd no

turn_later : (p : Progress) (b : ℕ) (i : Input) → b ≤ awaited p.phase i → From b (TurnLater b) (turn p true i)
unfolding turn
turn_later p b i n = phase_later p.manner p.phase b i n

turn_near : (p : Progress) (i : Input) (w : Wanted) → turn p false i ≡ Err (More w) → IsNearIn TurnLater (turn p) i w
unfolding turn
turn_near p i w e = phase_near p.manner p.phase i w e

-- ---- the next command

abbrev pub ToldLater : ℕ → Told → Input → Type 0
ToldLater b t j = b ≤ place_behind t.command t.progress j

event_later : (b : ℕ) (i : Input) → ((q : Progress) (j : Input) → length j.rest < length i.rest → b ≤ awaited q.phase j → From b (ToldLater b) (read_command q true j)) →
    (e : Event) (q : Progress) (j : Input) → (p : Progress) → Rattle.stream_reader.proofs.Lowering.Lowers p i e q j → EventLater b e q.phase j → From b (ToldLater b) (by_event read_command e q true j)
event_later b i next (Gives c) q j p l h = h
event_later b i next Skips q j p l h = next q j l.0 h
event_later b i next Ends q j p l h = h

turned_later : (b : ℕ) (i : Input) (p : Progress) → ((q : Progress) (j : Input) → length j.rest < length i.rest → b ≤ awaited q.phase j → From b (ToldLater b) (read_command q true j)) →
    (r : Read Turn) → TurnLowers p i r → From b (TurnLater b) r → From b (ToldLater b) (r >>= λ x. turn_on read_command x.0 true x.1)
turned_later b i p next (Ok x) m k = event_later b i next x.0.event x.0.progress x.1 p m k
turned_later b i p next (Err (More w)) m k = tt
turned_later b i p next (Err (Fault f)) m k = k

command_later_within : (n : ℕ) (p : Progress) (b : ℕ) (i : Input) → length i.rest < n → b ≤ awaited p.phase i → From b (ToldLater b) (read_command p true i)
command_later_within zero p b i h l = absurd (omega arith)
command_later_within (suc n) p b i h l =
    subst (From b (ToldLater b)) (sym (command-is p true i)) (turned_later b i p (λ q j s. command_later_within n q b j (omega (arith, h, s))) (turn p true i) (turn_lowers p true i) (turn_later p b i l))

-- what is told stands where something is looked at, or behind it
pub command_later : (p : Progress) (b : ℕ) (i : Input) → b ≤ awaited p.phase i → From b (ToldLater b) (read_command p true i)
command_later p b i l = command_later_within (length i.rest + 1) p b i (omega arith) l

later_event : (w : Wanted) (t : Turn) (j : Input) → TurnLater (place w) t j → From (place w) (ToldLater (place w)) (turn_on read_command t true j)
later_event w t j h = by t.event h
  where
    by : (e : Event) → EventLater (place w) e t.progress.phase j → From (place w) (ToldLater (place w)) (by_event read_command e t.progress true j)
    by (Gives c) h = h
    by Skips h = command_later t.progress (place w) j h
    by Ends h = h

near_as : (p : Progress) (i : Input) (w : Wanted) → IsNearIn ToldLater (turn p then turn_on read_command) i w → IsNearIn ToldLater (read_command p) i w
near_as p i w u = record { few = u.few; after = λ more. subst (From (place w) (ToldLater (place w))) (sym (command-is p true (grown more i))) (u.after more) }

event_near : (i : Input) (w : Wanted) → ((q : Progress) (j : Input) → length j.rest < length i.rest → read_command q false j ≡ Err (More w) → IsNearIn ToldLater (read_command q) j w) →
    (p : Progress) (t : Turn) (j : Input) → Rattle.stream_reader.proofs.Lowering.Lowers p i t.event t.progress j → turn_on read_command t false j ≡ Err (More w) → IsNearIn ToldLater (turn_on read_command t) j w
event_near i w next p t j l e = by t.event l e
  where
    by : (v : Event) → Rattle.stream_reader.proofs.Lowering.Lowers p i v t.progress j → by_event read_command v t.progress false j ≡ Err (More w) → IsNearIn ToldLater (by_event read_command v t.progress) j w
    by (Gives c) l e = let no : ⊥ = cc in absurd no
    by Skips l e = next t.progress j l.0 e
    by Ends l e = let no : ⊥ = cc in absurd no

command_near_within : (n : ℕ) (p : Progress) (i : Input) → length i.rest < n → (w : Wanted) → read_command p false i ≡ Err (More w) → IsNearIn ToldLater (read_command p) i w
command_near_within zero p i h w e = absurd (omega arith)
command_near_within (suc n) p i h w e =
    near_as p i w (then_near ToldLater (turn p) (turn_on read_command) (turn-reader p) i w TurnLater (turn_near p i)
    (λ t j q k. event_near i w (λ r m s. command_near_within n r m (omega (arith, h, s)) w) p t j (subst (TurnLowers p i) q (turn_lowers p false i)) k)
    (λ t j m. later_event w t j m) (sym (command-is p false i) ∙ e))

command_near : (p : Progress) (i : Input) (w : Wanted) → read_command p false i ≡ Err (More w) → IsNearIn ToldLater (read_command p) i w
command_near p i w e = command_near_within (length i.rest + 1) p i (omega arith) w e

-- ---- what a reader says

pub from_told : (b : ℕ) (r : Read Told) → From b (ToldLater b) r → IsTold r → b ≤ told_place r + (LINE_BYTES + 1)
from_told b (Ok x) h t = omega (arith, h)
from_told b (Err (More w)) h t = absurd t
from_told b (Err (Fault f)) h t = h

near_told : (p : Progress) (ended : Bool) (i : Input) (w : Wanted) → read_command p ended i ≡ Err (More w) → IsNear (record { progress = p; input = i; ended = ended })
near_told p false i w e = λ more.
    let u = command_near p i w e in
    omega (arith, u.few, from_told (place w) (read_command p true (grown more i)) (u.after more) ((command-reader p).told (grown more i)))
near_told p true i w e = absurd (subst IsTold e ((command-reader p).told i))

pub near : (result : Result Next StreamFault) (old new : Reading) → TellsNext result old new → OnMore result (IsNear old)
near (Ok (nexts.Command p)) old new h = tt
near (Ok nexts.More) old new h = near_told old.progress old.ended old.input h.0.0 h.0.1
near (Ok nexts.Ended) old new h = tt
near (Err f) old new h = tt
