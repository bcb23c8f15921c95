-- Commands within the limits of blobs, messages and paths, and what a reader gives.
use Rattle.std.specs.Prelude.{◌≡◌, ⊤, true, nat_le, length, All}
use Rattle.git_objects.specs.Paths.{Bytes, Path, is_bytes, text}
use Rattle.git_objects.specs.declared.limits.TheConstants.{BLOB_BYTES, MESSAGE_BYTES, PATH_BYTES, PATH_COMPONENTS}
use Rattle.stream_reader.specs.Verdicts.{verdict}
use Rattle.stream_reader.specs.declared.command.Command.{Command}
use Rattle.stream_reader.specs.declared.command.Command.TheVariants as commands
use Rattle.stream_reader.specs.declared.command.Change.{Change}
use Rattle.stream_reader.specs.declared.command.Change.TheVariants as changes
use Rattle.stream_reader.specs.declared.command.BlobRef.{BlobRef}
use Rattle.stream_reader.specs.declared.command.BlobRef.TheVariants as blobs
use Rattle.stream_reader.specs.declared.progress.Progress.{Progress}
use Rattle.import_laws.specs.SoundCommands.{IsSound}

abbrev pub IsShortBlob : Bytes → Type 0
IsShortBlob b = nat_le (length b) BLOB_BYTES ≡ true

-- at most 128 components, and 4,096 bytes
pub record IsShortPath (p : Path) : Type 0 where
  pub components : nat_le (length p) PATH_COMPONENTS ≡ true
  pub bytes : nat_le (length (text p)) PATH_BYTES ≡ true

abbrev pub IsSmallBlob : BlobRef → Type 0
IsSmallBlob (blobs.Inline b) = IsShortBlob b
IsSmallBlob (blobs.Mark n) = ⊤
IsSmallBlob (blobs.Digits n) = ⊤

abbrev pub IsSmallChange : Change → Type 0
IsSmallChange (changes.Modify m x p) = IsSmallBlob x × IsShortPath p
IsSmallChange (changes.Delete p) = IsShortPath p
IsSmallChange (changes.Rename s p) = IsShortPath s × IsShortPath p
IsSmallChange (changes.Copy s p) = IsShortPath s × IsShortPath p
IsSmallChange changes.DeleteAll = ⊤

abbrev pub IsSmall : Command → Type 0
IsSmall (commands.Blob m b) = IsShortBlob b
IsSmall (commands.Commit h) = nat_le (length h.message) MESSAGE_BYTES ≡ true
IsSmall (commands.Change c) = IsSmallChange c
IsSmall commands.CommitEnd = ⊤
IsSmall (commands.Reset refname from) = ⊤
IsSmall (commands.Tag h) = nat_le (length h.message) MESSAGE_BYTES ≡ true
IsSmall commands.Done = ⊤

-- what a reader gives
pub record IsRead (c : Command) : Type 0 where
  pub sound : IsSound c
  pub small : IsSmall c

-- Each command that a stream of bytes spells, up to its first fault or to its end.
abbrev pub ReaderLaw : Type 0
ReaderLaw = (p : Progress) (input : Bytes) → is_bytes input ≡ true
    → All (λ c. IsRead c.command) (verdict p input).commands
