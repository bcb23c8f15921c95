-- Commands as a reader gives them: names, paths and idents are such, and contents are bytes.
use Rattle.std.specs.Prelude.{◌≡◌, ⊤, true}
use Rattle.git_objects.specs.Paths.{is_bytes, is_path}
use Rattle.git_objects.specs.Idents.{is_ident}
use Rattle.git_objects.specs.Bodies.{is_name}
use Rattle.git_objects.specs.declared.mode.Mode.{Mode}
use Rattle.git_objects.specs.declared.mode.Mode.TheVariants.{File, Exec, Link, Module, Dir}
use Rattle.path_names.specs.RefNames.{is_ref_name}
use Rattle.stream_reader.specs.declared.command.Command.{Command}
use Rattle.stream_reader.specs.declared.command.Command.TheVariants as commands
use Rattle.stream_reader.specs.declared.command.CommitHead.{CommitHead}
use Rattle.stream_reader.specs.declared.command.TagHead.{TagHead}
use Rattle.tag_objects.specs.TagNames.{is_tag_name}
use Rattle.stream_reader.specs.declared.command.Change.{Change}
use Rattle.stream_reader.specs.declared.command.Change.TheVariants as changes
use Rattle.stream_reader.specs.declared.command.BlobRef.{BlobRef}
use Rattle.stream_reader.specs.declared.command.BlobRef.TheVariants as blobs

abbrev pub IsSoundFile : BlobRef → Type 0
IsSoundFile (blobs.Inline b) = is_bytes b ≡ true
IsSoundFile (blobs.Mark n) = ⊤
IsSoundFile (blobs.Digits n) = ⊤

-- a module has a name alone
abbrev pub IsSoundModule : BlobRef → Type 0
IsSoundModule (blobs.Inline b) = ⊥
IsSoundModule (blobs.Mark n) = ⊥
IsSoundModule (blobs.Digits n) = is_name n.0 ≡ true

abbrev pub IsSoundBlob : Mode → BlobRef → Type 0
IsSoundBlob File x = IsSoundFile x
IsSoundBlob Exec x = IsSoundFile x
IsSoundBlob Link x = IsSoundFile x
IsSoundBlob Module x = IsSoundModule x
IsSoundBlob Dir x = ⊥

abbrev pub IsSoundChange : Change → Type 0
IsSoundChange (changes.Modify m x p) = IsSoundBlob m x × (is_path p ≡ true)
IsSoundChange (changes.Delete p) = ⊤
IsSoundChange (changes.Rename s p) = is_path p ≡ true
IsSoundChange (changes.Copy s p) = is_path p ≡ true
IsSoundChange changes.DeleteAll = ⊤

pub record IsSoundHead (h : CommitHead) : Type 0 where
  pub refname : is_ref_name h.refname ≡ true
  pub author : is_ident h.author ≡ true
  pub committer : is_ident h.committer ≡ true
  pub author_bytes : is_bytes h.author ≡ true
  pub committer_bytes : is_bytes h.committer ≡ true
  pub message : is_bytes h.message ≡ true

pub record IsSoundTag (h : TagHead) : Type 0 where
  pub tag_name : is_tag_name h.name ≡ true
  pub tagger : is_ident h.tagger ≡ true
  pub tagger_bytes : is_bytes h.tagger ≡ true
  pub message : is_bytes h.message ≡ true

abbrev pub IsSound : Command → Type 0
IsSound (commands.Blob m b) = is_bytes b ≡ true
IsSound (commands.Commit h) = IsSoundHead h
IsSound (commands.Change c) = IsSoundChange c
IsSound commands.CommitEnd = ⊤
IsSound (commands.Reset refname from) = is_ref_name refname ≡ true
IsSound (commands.Tag h) = IsSoundTag h
IsSound commands.Done = ⊤
