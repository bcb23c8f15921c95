-- Each command takes bytes, or leaves a commit.
use Rattle.std.proofs.Common.{◌<◌, ◌≤◌, ℕ, Bool, true, false, length, Option, Some, None, Ok, Err, ap, arith, length-drop}
use Rattle.stream_lex.specs.Lines.{Input, Line, line_at, Lex}
use Rattle.stream_lex.specs.Cutting.{Advances}
use Rattle.stream_lex.proofs.Fuel.{Moves, line_at-moves}
use Rattle.stream_reader.specs.declared.command.Command.{Command}
use Rattle.stream_reader.specs.declared.command.Command.TheVariants as commands
use Rattle.stream_reader.specs.declared.progress.Manner.{Manner}
use Rattle.stream_reader.specs.declared.progress.Phase.{Phase}
use Rattle.stream_reader.specs.declared.progress.Phase.TheVariants.{Between, InCommit, Finished}
use Rattle.stream_reader.specs.declared.progress.Progress.{Progress}
use Rattle.stream_reader.specs.declared.progress.Event.{Event}
use Rattle.stream_reader.specs.declared.progress.Event.TheVariants.{Gives, Skips, Ends}
use Rattle.git_objects.specs.Paths.{Bytes}
use Rattle.git_objects.specs.Results.{◌>>=◌}
use Rattle.stream_lex.specs.Cutting.{◌then◌}
use Rattle.stream_reader.specs.Reading.{Read, lifted}
use Rattle.stream_reader.specs.Heads.{blob, head, reset, tag}
use Rattle.stream_reader.specs.Changes.{change, change_line, ChangeLine, ModifyIs, DeleteIs, RenameIs, CopyIs, DeleteAllIs, NotesAre, EmptyIs, NoChange}
use Rattle.stream_reader.specs.Commands.{CommandLine, EmptyLine, BlobLine, CommitLine, ResetLine, TagLine, IdleLine, WantsDone, DoneLine, RefusedLine, OtherLine, command_line, Turn, turned, gives, tag_turn, between, ends_at, between_at, changed, in_commit_at, turn_in, turn}
use Rattle.stream_reader.specs.Verdicts.{size}
use Rattle.stream_lex.specs.Cutting.{Steps}
use Rattle.stream_reader.proofs.Composed.{blob-reader, head-reader, reset-reader, tag-reader, change-reader}

abbrev pub Lowers : Progress → Input → Event → Progress → Input → Type 0
Lowers p i (Gives c) q j = size q j < size p i
Lowers p i Skips q j = (length j.rest < length i.rest) × (size q j < size p i)
Lowers p i Ends q j = Unit {0}

abbrev pub TurnLowers : Progress → Input → Read Turn → Type 0
TurnLowers p i (Ok x) = Lowers p i x.0.event x.0.progress x.1
TurnLowers p i (Err e) = Unit {0}

pub not_longer : (i j : Input) → Advances i j → length j.rest ≤ length i.rest
not_longer i j h = omega (arith, ap length h.rest, length-drop h.by i.rest)

-- behind a reader
then_lowers : {A : Type 0} (p : Progress) (i j : Input) (r : Read A) (make : A → Turn) → Steps j r →
    ((x : A) (k : Input) → length k.rest ≤ length j.rest → Lowers p i (make x).event (make x).progress k) → TurnLowers p i (r >>= λ x. Ok (make x.0, x.1))
then_lowers p i j (Ok x) make h k = k x.0 x.1 (not_longer j x.1 h)
then_lowers p i j (Err e) make h k = tt

abbrev here : Phase → Manner → Progress
here p d = record { phase = p; manner = d }

abbrev given : ℕ → Phase → Manner → Command → Turn
given at p d c = turned (Gives (record { at = at; command = c })) p d

module _ (ended : Bool) (d : Manner) where
  tag_lowers : (at : ℕ) (t : Option Bytes) (b : Bool) (i j : Input) → length j.rest < length i.rest → TurnLowers (here Between d) i (tag_turn at t d b ended j)
  tag_lowers at t true i j h = then_lowers (here Between d) i j (tag at t ended j) (given at Between d) ((tag-reader at t).steps ended j) (λ x k g. omega arith)
  tag_lowers at t false i j h = tt

  between_lowers : (k : CommandLine) (at : ℕ) (i j : Input) → length j.rest < length i.rest → TurnLowers (here Between d) i (between k at d ended j)
  between_lowers EmptyLine at i j h = (h, omega arith)
  between_lowers BlobLine at i j h = then_lowers (here Between d) i j (blob ended j) (given at Between d) (blob-reader.steps ended j) (λ x k g. omega arith)
  between_lowers (CommitLine t) at i j h = then_lowers (here Between d) i j (head at t ended j) (given at InCommit d) ((head-reader at t).steps ended j) (λ x k g. omega arith)
  between_lowers (ResetLine t) at i j h = then_lowers (here Between d) i j (reset at t ended j) (given at Between d) ((reset-reader at t).steps ended j) (λ x k g. omega arith)
  between_lowers (TagLine t) at i j h = tag_lowers at t d.takes_tags i j h
  between_lowers IdleLine at i j h = (h, omega arith)
  between_lowers WantsDone at i j h = (h, omega arith)
  between_lowers DoneLine at i j h = omega arith
  between_lowers (RefusedLine f) at i j h = tt
  between_lowers OtherLine at i j h = tt

  end_lowers : (e : Bool) (at : ℕ) (i j : Input) → TurnLowers (here Between d) i (ends_at at d e ended j)
  end_lowers true at i j = tt
  end_lowers false at i j = tt

  between_line_lowers : (i : Input) (r : Lex (Option Line)) → Moves i r → TurnLowers (here Between d) i (lifted r >>= between_at d ended)
  between_line_lowers i (Ok (Some l, j)) h = between_lowers (command_line l.bytes) l.place i j h.0
  between_line_lowers i (Ok (None, j)) h = end_lowers d.wants_done j.at i j
  between_line_lowers i (Err e) h = tt

  changing_lowers : (k : ChangeLine) (at : ℕ) (i j : Input) → length j.rest < length i.rest →
      TurnLowers (here InCommit d) i ((change at k then λ c. gives at InCommit d (commands.Change c)) ended j)
  changing_lowers k at i j h = then_lowers (here InCommit d) i j (change at k ended j) (λ c. given at InCommit d (commands.Change c)) ((change-reader at k).steps ended j) (λ x k g. omega arith)

  changed_lowers : (k : ChangeLine) (at : ℕ) (i j : Input) → length j.rest < length i.rest → TurnLowers (here InCommit d) i (changed k at d ended i j)
  changed_lowers EmptyIs at i j h = omega arith
  changed_lowers NoChange at i j h = omega arith
  changed_lowers (ModifyIs t) at i j h = changing_lowers (ModifyIs t) at i j h
  changed_lowers (DeleteIs t) at i j h = changing_lowers (DeleteIs t) at i j h
  changed_lowers (RenameIs t) at i j h = changing_lowers (RenameIs t) at i j h
  changed_lowers (CopyIs t) at i j h = changing_lowers (CopyIs t) at i j h
  changed_lowers DeleteAllIs at i j h = changing_lowers DeleteAllIs at i j h
  changed_lowers NotesAre at i j h = changing_lowers NotesAre at i j h

  commit_line_lowers : (i : Input) (r : Lex (Option Line)) → Moves i r → TurnLowers (here InCommit d) i (lifted r >>= in_commit_at d ended i)
  commit_line_lowers i (Ok (Some l, j)) h = changed_lowers (change_line l.bytes) l.place i j h.0
  commit_line_lowers i (Ok (None, j)) h = omega (arith, h.0)
  commit_line_lowers i (Err e) h = tt

  turn_in_lowers : (p : Phase) (i : Input) → TurnLowers (here p d) i (turn_in p d ended i)
  turn_in_lowers Between i = between_line_lowers i (line_at ended i) (line_at-moves ended i)
  turn_in_lowers InCommit i = commit_line_lowers i (line_at ended i) (line_at-moves ended i)
  turn_in_lowers Finished i = tt

pub turn_lowers : (p : Progress) (ended : Bool) (i : Input) → TurnLowers p i (turn p ended i)
unfolding turn
turn_lowers p ended i = turn_in_lowers ended p.manner p.phase i
