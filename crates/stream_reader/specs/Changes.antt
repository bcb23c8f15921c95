-- Changes of a commit's tree.
use Rattle.std.specs.Prelude.{ℕ, Bool, true, false, cond, ◌||◌, nat_eq, codes, Option, Some, None, Ok}
use Rattle.std.specs.List.{starts_with}
use Rattle.git_objects.specs.declared.mode.Mode.{Mode}
use Rattle.git_objects.specs.declared.mode.Mode.TheVariants.{File, Exec, Link, Module, Dir}
use Rattle.git_objects.specs.Paths.{Bytes, same_bytes, is_nil}
use Rattle.git_objects.specs.CommitBodies.{strip, digits_name}
use Rattle.stream_reader.specs.declared.fault.Feature.TheVariants.{DirectoryMode, LinkTarget, Notes}
use Rattle.stream_reader.specs.declared.fault.StreamFault.TheVariants.{Syntax, Unsupported}
use Rattle.stream_reader.specs.declared.command.BlobRef.{BlobRef}
use Rattle.stream_reader.specs.declared.command.BlobRef.TheVariants as blobs
use Rattle.stream_reader.specs.declared.command.Change.{Change}
use Rattle.stream_reader.specs.declared.command.Change.TheVariants as changes
use Rattle.stream_reader.specs.declared.modify.DataRef.{DataRef}
use Rattle.stream_reader.specs.declared.modify.DataRef.TheVariants as datas
use Rattle.stream_reader.specs.declared.modify.ModifyLine.{ModifyLine}
use Rattle.stream_reader.specs.Words.{first_word, mark}
use Rattle.git_objects.specs.Results.{◌>>=◌}
use Rattle.stream_lex.specs.Cutting.{◌then◌, judged, pure, refuse}
use Rattle.stream_reader.specs.Reading.{Judged, Reader, fault, or_fault}
use Rattle.stream_reader.specs.Names.{some_name}
use Rattle.stream_reader.specs.Blocks.{blob_data}
use Rattle.stream_reader.specs.PathWords.{last_path, two_paths}

-- ---- the line `M MODE DATAREF PATH`

unfoldable pub mode : ℕ → Bytes → Judged Mode
mode at w =
    cond (same_bytes w (codes "100644") || same_bytes w (codes "644")) (Ok File)
    (cond (same_bytes w (codes "100755") || same_bytes w (codes "755")) (Ok Exec)
    (cond (same_bytes w (codes "120000")) (Ok Link)
    (cond (same_bytes w (codes "160000")) (Ok Module)
    (cond (same_bytes w (codes "040000") || same_bytes w (codes "40000")) (fault (Unsupported at DirectoryMode))
    (fault (Syntax at))))))

-- a mark, 40 digits of either case, or the word `inline`
unfoldable pub dataref : ℕ → Bytes → Judged DataRef
dataref at w =
    cond (same_bytes w (codes "inline")) (Ok datas.Inline)
    (cond (starts_with nat_eq w (codes ":")) (or_fault (Syntax at) (mark w) >>= λ n. Ok (datas.Mark n))
    (or_fault (Syntax at) (digits_name w) >>= λ n. some_name at n >>= λ x. Ok (datas.Digits x)))

abbrev pub is_module : Mode → Bool
is_module File = false
is_module Exec = false
is_module Link = false
is_module Module = true
is_module Dir = false

abbrev pub is_digits : DataRef → Bool
is_digits (datas.Mark n) = false
is_digits (datas.Digits n) = true
is_digits datas.Inline = false

-- a module takes digits alone
abbrev pub fitting : ℕ → Mode → DataRef → Judged DataRef
fitting at m d = cond (is_module m) (cond (is_digits d) (Ok d) (fault (Unsupported at LinkTarget))) (Ok d)

abbrev pub data_part : ℕ → Mode → Bytes × Option Bytes → Judged ModifyLine
data_part at m w =
    dataref at w.0 >>= λ d. fitting at m d >>= λ d. or_fault (Syntax at) w.1 >>= λ t. last_path at t >>= λ p. Ok (record { mode = m; blob = d; path = p })

abbrev pub mode_part : ℕ → Bytes × Option Bytes → Judged ModifyLine
mode_part at w = mode at w.0 >>= λ m. or_fault (Syntax at) w.1 >>= λ t. data_part at m (first_word t)

-- what stands behind `M` and a space
unfoldable pub modify_line : ℕ → Bytes → Judged ModifyLine
modify_line at t = mode_part at (first_word t)

-- data stands behind the line where it says `inline`
abbrev pub blob_ref : DataRef → Reader BlobRef
blob_ref (datas.Mark n) = pure (blobs.Mark n)
blob_ref (datas.Digits n) = pure (blobs.Digits n)
blob_ref datas.Inline = blob_data then λ b. pure (blobs.Inline b)

unfoldable pub modify : ℕ → Bytes → Reader Change
modify at t = judged (modify_line at t) then λ l. blob_ref l.blob then λ b. pure (changes.Modify l.mode b l.path)

-- ---- lines by their first word

pub data ChangeLine : Type 0 where
  ModifyIs : Bytes → ChangeLine
  DeleteIs : Bytes → ChangeLine
  RenameIs : Bytes → ChangeLine
  CopyIs : Bytes → ChangeLine
  DeleteAllIs : ChangeLine
  NotesAre : ChangeLine
  EmptyIs : ChangeLine
  NoChange : ChangeLine

abbrev pub with_word : (Bytes → ChangeLine) → ChangeLine → Option Bytes → ChangeLine
with_word make other (Some t) = make t
with_word make other None = other

-- a word, a space and a text
abbrev pub by_word : Bytes → (Bytes → ChangeLine) → Bytes → ChangeLine → ChangeLine
by_word word make t other = with_word make other (strip word t)

abbrev pub is_notes : Bytes → Bool
is_notes t = same_bytes (first_word t).0 (codes "N")

unfoldable pub change_line : Bytes → ChangeLine
change_line t =
    by_word (codes "M ") ModifyIs t
    (by_word (codes "D ") DeleteIs t
    (by_word (codes "R ") RenameIs t
    (by_word (codes "C ") CopyIs t
    (cond (same_bytes t (codes "deleteall")) DeleteAllIs (cond (is_notes t) NotesAre (cond (is_nil t) EmptyIs NoChange))))))

-- A change whose first line stands there.
unfoldable pub change : ℕ → ChangeLine → Reader Change
change at (ModifyIs t) = modify at t
change at (DeleteIs t) = judged (last_path at t) then λ p. pure (changes.Delete p)
change at (RenameIs t) = judged (two_paths at t) then λ p. pure (changes.Rename p.0 p.1)
change at (CopyIs t) = judged (two_paths at t) then λ p. pure (changes.Copy p.0 p.1)
change at DeleteAllIs = pure changes.DeleteAll
change at NotesAre = refuse (Unsupported at Notes)
change at EmptyIs = refuse (Syntax at)
change at NoChange = refuse (Syntax at)
