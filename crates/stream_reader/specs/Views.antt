-- What functions over borrowed bytes tell.
use Rattle.std.specs.Prelude.{◌≡◌, ℕ, List, Option, Result, Ok, Err}
use Rattle.std.specs.Borrow.{Bor}
use Rattle.git_objects.specs.Paths.{Bytes}
use Rattle.stream_lex.specs.declared.cursor.Cursor.{Cursor}
use Rattle.stream_lex.specs.declared.cursor.LineView.{LineView}
use Rattle.stream_lex.specs.Lines.{Input, Line}
use Rattle.stream_lex.specs.Views.{input, line, maybe_bytes}
use Rattle.stream_reader.specs.declared.commit_ref.CommitRef.{CommitRef}
use Rattle.stream_reader.specs.declared.halt.Halt.{Halt}
use Rattle.stream_reader.specs.declared.halt.Halt.TheVariants as halts
use Rattle.stream_lex.specs.declared.stop.Stop.{Stop}
use Rattle.stream_lex.specs.declared.stop.Stop.TheVariants as stops
use Rattle.stream_lex.specs.declared.stop.LimitFault.{LimitFault}
use Rattle.stream_lex.specs.declared.stop.LimitFault.TheVariants.{LongLine, StreamTooLong}
use Rattle.git_objects.specs.declared.quantity.Quantity.TheVariants as limits
use Rattle.git_objects.specs.declared.limits.TheConstants.{STREAM_BYTES}
use Rattle.stream_reader.specs.declared.fault.StreamFault.TheVariants.{Limit}
use Rattle.stream_reader.specs.declared.progress.Event.{Event}
use Rattle.stream_reader.specs.declared.progress.Progress.{Progress}
use Rattle.stream_reader.specs.declared.kinds.CommandKind.{CommandKind}
use Rattle.stream_reader.specs.declared.kinds.CommandKind.TheVariants as commands
use Rattle.stream_reader.specs.declared.kinds.ChangeKind.{ChangeKind}
use Rattle.stream_reader.specs.declared.kinds.ChangeKind.TheVariants as changes
use Rattle.stream_reader.specs.Reading.{Judged}
use Rattle.stream_reader.specs.Changes.{ChangeLine, ModifyIs, DeleteIs, RenameIs, CopyIs, DeleteAllIs, NotesAre, EmptyIs, NoChange}
use Rattle.stream_reader.specs.Commands.{CommandLine, EmptyLine, BlobLine, CommitLine, ResetLine, TagLine, IdleLine, WantsDone, DoneLine, RefusedLine, OtherLine, Turn}

-- what a function returned, seen by view, is what reading gives, unless memory ran out
abbrev pub Tells : {X Y : Type 0} → (X → Y) → Result X Halt → Judged Y → Type 0
Tells view (Ok x) read = read ≡ Ok (view x)
Tells view (Err halts.Memory) read = Unit {0}
Tells view (Err (halts.More w)) read = read ≡ Err (stops.More w)
Tells view (Err (halts.Fault f)) read = read ≡ Err (stops.Fault f)

-- what a line or a block that isn't read halts with
abbrev pub halt_of : Stop LimitFault → Halt
halt_of (stops.More w) = halts.More w
halt_of (stops.Fault (LongLine at)) = halts.Fault (Limit at limits.Line)
halt_of (stops.Fault StreamTooLong) = halts.Fault (Limit STREAM_BYTES limits.Stream)

abbrev pub same : {A : Type 0} → A → A
same x = x

-- a value that owns its memory, with what is left
abbrev pub with_rest : {A : Type 0} → A × Cursor → A × Input
with_rest x = (x.0, input x.1)

abbrev pub line_read : LineView × Cursor → Line × Input
line_read x = (line x.0, input x.1)

abbrev pub bytes_read : Bor (List ℕ) × Cursor → Bytes × Input
bytes_read x = (x.0.now, input x.1)

-- a text with what follows it
abbrev pub word_read : Bor (List ℕ) × Option (Bor (List ℕ)) → Bytes × Option Bytes
word_read x = (x.0.now, maybe_bytes x.1)

abbrev pub value_read : {A : Type 0} → A × Option (Bor (List ℕ)) → A × Option Bytes
value_read x = (x.0, maybe_bytes x.1)

abbrev pub owned_and_rest : Bytes × Bor (List ℕ) → Bytes × Bytes
owned_and_rest x = (x.0, x.1.now)

abbrev pub people_read : Bytes × Bytes × Cursor → (Bytes × Bytes) × Input
people_read x = ((x.0, x.1), input x.2)

abbrev pub parents_read : Option CommitRef × List CommitRef × Cursor → (Option CommitRef × List CommitRef) × Input
parents_read x = ((x.0, x.1), input x.2)

abbrev pub change_kind : ChangeKind → ChangeLine
change_kind (changes.Modify t) = ModifyIs t.now
change_kind (changes.Delete t) = DeleteIs t.now
change_kind (changes.Rename t) = RenameIs t.now
change_kind (changes.Copy t) = CopyIs t.now
change_kind changes.DeleteAll = DeleteAllIs
change_kind changes.Notes = NotesAre
change_kind changes.Empty = EmptyIs
change_kind changes.Other = NoChange

abbrev pub command_kind : CommandKind → CommandLine
command_kind commands.Empty = EmptyLine
command_kind commands.Blob = BlobLine
command_kind (commands.Commit t) = CommitLine t.now
command_kind (commands.Reset t) = ResetLine t.now
command_kind (commands.Tag t) = TagLine (maybe_bytes t)
command_kind commands.Idle = IdleLine
command_kind commands.WantsDone = WantsDone
command_kind commands.Done = DoneLine
command_kind (commands.Refused f) = RefusedLine f
command_kind commands.Other = OtherLine

abbrev pub turn_read : Event × Progress × Cursor → Turn × Input
turn_read x = (record { event = x.0; progress = x.1 }, input x.2)
