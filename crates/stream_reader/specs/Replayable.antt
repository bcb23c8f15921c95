-- What a reader tells can be replayed.
use Rattle.std.specs.Prelude.{◌≡◌, Bool, true, false, Result, Ok, Err}
use Rattle.git_objects.specs.declared.mode.Mode.{Mode}
use Rattle.git_objects.specs.declared.mode.Mode.TheVariants.{Module, Dir}
use Rattle.stream_reader.specs.declared.command.BlobRef.{BlobRef}
use Rattle.stream_reader.specs.declared.command.BlobRef.TheVariants as blobs
use Rattle.stream_reader.specs.declared.command.Change.TheVariants as changes
use Rattle.stream_reader.specs.declared.command.Command.{Command}
use Rattle.stream_reader.specs.declared.command.Command.TheVariants as commands
use Rattle.stream_reader.specs.declared.fault.StreamFault.{StreamFault}
use Rattle.stream_reader.specs.declared.reader.Next.{Next}
use Rattle.stream_reader.specs.declared.reader.Next.TheVariants as nexts

-- no change has a directory's mode, and a module is put by its digits alone
abbrev pub is_fit : Mode → BlobRef → Bool
is_fit Dir x = false
is_fit Module (blobs.Digits n) = true
is_fit Module x = false
is_fit m x = true

abbrev pub is_replayable : Command → Bool
is_replayable (commands.Change (changes.Modify m x p)) = is_fit m x
is_replayable c = true

-- a command that is told is replayable
abbrev pub IfTold : Result Next StreamFault → Type 0
IfTold (Ok (nexts.Command p)) = is_replayable p.command ≡ true
IfTold (Ok nexts.More) = Unit {0}
IfTold (Ok nexts.Ended) = Unit {0}
IfTold (Err f) = Unit {0}
