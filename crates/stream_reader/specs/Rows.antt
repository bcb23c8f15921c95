-- Worked examples.
use Rattle.std.specs.Prelude.{◌≡◌, refl, [], ◌∷◌, replicate, codes, Some, None}
use Rattle.git_objects.specs.declared.quantity.Quantity.TheVariants.{Blob as BlobBytes, Message, Parents}
use Rattle.git_objects.specs.declared.mode.Mode.TheVariants.{File, Exec, Link, Module}
use Rattle.git_objects.specs.Idents.{is_ident}
use Rattle.path_names.specs.PathTexts.{path_of}
use Rattle.path_names.specs.Quoting.{unquote}
use Rattle.path_names.specs.RefNames.{is_ref_name}
use Rattle.hex.specs.Hex.{decode_pairs}
use Rattle.stream_lex.specs.Lines.{any_line, line_at, block_at}
use Rattle.stream_reader.specs.declared.fault.Feature.TheVariants.{Tag, Options, Notes, FeatureLine, Encoding, Signature, Delimiter, DirectoryMode, LinkTarget, EmptyPath, ZeroName}
use Rattle.stream_reader.specs.declared.fault.StreamFault.TheVariants.{Syntax, Unsupported, BadPath, Limit}
use Rattle.stream_reader.specs.declared.command.Command.TheVariants.{Blob, Commit, Change, CommitEnd, Reset, Done}
use Rattle.stream_reader.specs.declared.command.Change.TheVariants.{Modify, Delete, Rename, Copy, DeleteAll}
use Rattle.stream_reader.specs.declared.command.BlobRef.TheVariants.{Inline, Digits as DigitsOf, Mark as MarkOf}
use Rattle.stream_reader.specs.declared.commit_ref.Target.TheVariants.{Mark, Ref}
use Rattle.path_names.specs.Words.{number}
use Rattle.stream_reader.specs.Words.{first_word, mark}
use Rattle.stream_reader.specs.Reading.{option_line, need_line}
use Rattle.stream_reader.specs.Names.{target}
use Rattle.stream_reader.specs.Blocks.{data_behind, blob_data, message_data}
use Rattle.stream_reader.specs.PathWords.{last_path, first_path, two_paths}
use Rattle.stream_reader.specs.Changes.{mode, dataref, modify_line, modify, change_line, change}
use Rattle.stream_reader.specs.Heads.{mark_lines, blob, people, ref_line, parents, head, reset}
use Rattle.stream_reader.specs.Commands.{command_line, turn, read_command}
use Rattle.stream_reader.specs.Verdicts.{start, verdict, verdict_from}

pub one_commit : verdict start (codes "commit refs/heads/main\ncommitter A <a@x> 1700000000 +0000\ndata 5\ninit\nM 100644 inline a/f\ndata 6\nhello\n") ≡ record { commands = record { at = 0; command = Commit (record { refname = codes "refs/heads/main"; mark = None; author = codes "A <a@x> 1700000000 +0000"; committer = codes "A <a@x> 1700000000 +0000"; message = codes "init\n"; from = None; merges = [] }) } ∷ record { at = 70; command = Change (Modify File (Inline (codes "hello\n")) (codes "a" ∷ codes "f" ∷ [])) } ∷ record { at = 103; command = CommitEnd } ∷ []; fault = None }
unfolding any_line line_at block_at option_line need_line first_word number mark target data_behind blob_data message_data last_path first_path two_paths path_of unquote is_ref_name is_ident mode dataref modify_line modify change_line change mark_lines blob people ref_line parents head reset command_line turn read_command verdict_from decode_pairs
one_commit = refl

pub short_data : verdict start (codes "commit refs/heads/main\ncommitter A <a@x> 1700000000 +0000\ndata 5\ninit\nM 100644 inline a/f\ndata 6\nhel") ≡ record { commands = record { at = 0; command = Commit (record { refname = codes "refs/heads/main"; mark = None; author = codes "A <a@x> 1700000000 +0000"; committer = codes "A <a@x> 1700000000 +0000"; message = codes "init\n"; from = None; merges = [] }) } ∷ []; fault = Some (Syntax 90) }
unfolding any_line line_at block_at option_line need_line first_word number mark target data_behind blob_data message_data last_path first_path two_paths path_of unquote is_ref_name is_ident mode dataref modify_line modify change_line change mark_lines blob people ref_line parents head reset command_line turn read_command verdict_from decode_pairs
short_data = refl

pub data_without_bytes : verdict start (codes "commit refs/heads/main\ncommitter A <a@x> 1700000000 +0000\ndata 5\ninit\nM 100644 inline a/f\n") ≡ record { commands = record { at = 0; command = Commit (record { refname = codes "refs/heads/main"; mark = None; author = codes "A <a@x> 1700000000 +0000"; committer = codes "A <a@x> 1700000000 +0000"; message = codes "init\n"; from = None; merges = [] }) } ∷ []; fault = Some (Syntax 90) }
unfolding any_line line_at block_at option_line need_line first_word number mark target data_behind blob_data message_data last_path first_path two_paths path_of unquote is_ref_name is_ident mode dataref modify_line modify change_line change mark_lines blob people ref_line parents head reset command_line turn read_command verdict_from decode_pairs
data_without_bytes = refl

pub short_message : verdict start (codes "commit refs/heads/main\ncommitter A <a@x> 1700000000 +0000\ndata 5\ninit") ≡ record { commands = []; fault = Some (Syntax 58) }
unfolding any_line line_at block_at option_line need_line first_word number mark target data_behind blob_data message_data last_path first_path two_paths path_of unquote is_ref_name is_ident mode dataref modify_line modify change_line change mark_lines blob people ref_line parents head reset command_line turn read_command verdict_from decode_pairs
short_message = refl

pub no_message : verdict start (codes "commit refs/heads/main\ncommitter A <a@x> 1700000000 +0000\n") ≡ record { commands = []; fault = Some (Syntax 58) }
unfolding any_line line_at block_at option_line need_line first_word number mark target data_behind blob_data message_data last_path first_path two_paths path_of unquote is_ref_name is_ident mode dataref modify_line modify change_line change mark_lines blob people ref_line parents head reset command_line turn read_command verdict_from decode_pairs
no_message = refl

pub no_changes : verdict start (codes "commit refs/heads/main\ncommitter A <a@x> 1700000000 +0000\ndata 5\ninit\n") ≡ record { commands = record { at = 0; command = Commit (record { refname = codes "refs/heads/main"; mark = None; author = codes "A <a@x> 1700000000 +0000"; committer = codes "A <a@x> 1700000000 +0000"; message = codes "init\n"; from = None; merges = [] }) } ∷ record { at = 70; command = CommitEnd } ∷ []; fault = None }
unfolding any_line line_at block_at option_line need_line first_word number mark target data_behind blob_data message_data last_path first_path two_paths path_of unquote is_ref_name is_ident mode dataref modify_line modify change_line change mark_lines blob people ref_line parents head reset command_line turn read_command verdict_from decode_pairs
no_changes = refl

pub nothing : verdict start (codes "") ≡ record { commands = []; fault = None }
unfolding any_line line_at block_at option_line need_line first_word number mark target data_behind blob_data message_data last_path first_path two_paths path_of unquote is_ref_name is_ident mode dataref modify_line modify change_line change mark_lines blob people ref_line parents head reset command_line turn read_command verdict_from decode_pairs
nothing = refl

pub empty_lines : verdict start (codes "\n\n# comment\n") ≡ record { commands = []; fault = None }
unfolding any_line line_at block_at option_line need_line first_word number mark target data_behind blob_data message_data last_path first_path two_paths path_of unquote is_ref_name is_ident mode dataref modify_line modify change_line change mark_lines blob people ref_line parents head reset command_line turn read_command verdict_from decode_pairs
empty_lines = refl

pub a_blob : verdict start (codes "blob\nmark :1\noriginal-oid x\ndata 2\nhi\n") ≡ record { commands = record { at = 0; command = Blob (Some 1) (codes "hi") } ∷ []; fault = None }
unfolding any_line line_at block_at option_line need_line first_word number mark target data_behind blob_data message_data last_path first_path two_paths path_of unquote is_ref_name is_ident mode dataref modify_line modify change_line change mark_lines blob people ref_line parents head reset command_line turn read_command verdict_from decode_pairs
a_blob = refl

-- the fault, or the command, stands behind the comment
pub a_blob_behind_a_comment : verdict start (codes "#c\nblob\n#d\ndata 1\n\n\n") ≡ record { commands = record { at = 3; command = Blob None (codes "\n") } ∷ []; fault = None }
unfolding any_line line_at block_at option_line need_line first_word number mark target data_behind blob_data message_data last_path first_path two_paths path_of unquote is_ref_name is_ident mode dataref modify_line modify change_line change mark_lines blob people ref_line parents head reset command_line turn read_command verdict_from decode_pairs
a_blob_behind_a_comment = refl

pub two_blobs_without_an_end_of_line : verdict start (codes "blob\ndata 1\nablob\ndata 0\n") ≡ record { commands = record { at = 0; command = Blob None (codes "a") } ∷ record { at = 13; command = Blob None [] } ∷ []; fault = None }
unfolding any_line line_at block_at option_line need_line first_word number mark target data_behind blob_data message_data last_path first_path two_paths path_of unquote is_ref_name is_ident mode dataref modify_line modify change_line change mark_lines blob people ref_line parents head reset command_line turn read_command verdict_from decode_pairs
two_blobs_without_an_end_of_line = refl

pub no_such_command : verdict start (codes "blobs\n") ≡ record { commands = []; fault = Some (Syntax 0) }
unfolding any_line line_at block_at option_line need_line first_word number mark target data_behind blob_data message_data last_path first_path two_paths path_of unquote is_ref_name is_ident mode dataref modify_line modify change_line change mark_lines blob people ref_line parents head reset command_line turn read_command verdict_from decode_pairs
no_such_command = refl

pub a_mark_of_zero : verdict start (codes "blob\nmark :0\ndata 0\n") ≡ record { commands = []; fault = Some (Syntax 5) }
unfolding any_line line_at block_at option_line need_line first_word number mark target data_behind blob_data message_data last_path first_path two_paths path_of unquote is_ref_name is_ident mode dataref modify_line modify change_line change mark_lines blob people ref_line parents head reset command_line turn read_command verdict_from decode_pairs
a_mark_of_zero = refl

pub a_mark_of_18_digits : verdict start (codes "blob\nmark :999999999999999999\ndata 0\n") ≡ record { commands = record { at = 0; command = Blob (Some 999999999999999999) [] } ∷ []; fault = None }
unfolding any_line line_at block_at option_line need_line first_word number mark target data_behind blob_data message_data last_path first_path two_paths path_of unquote is_ref_name is_ident mode dataref modify_line modify change_line change mark_lines blob people ref_line parents head reset command_line turn read_command verdict_from decode_pairs
a_mark_of_18_digits = refl

pub a_mark_of_19_digits : verdict start (codes "blob\nmark :9999999999999999999\ndata 0\n") ≡ record { commands = []; fault = Some (Syntax 5) }
unfolding any_line line_at block_at option_line need_line first_word number mark target data_behind blob_data message_data last_path first_path two_paths path_of unquote is_ref_name is_ident mode dataref modify_line modify change_line change mark_lines blob people ref_line parents head reset command_line turn read_command verdict_from decode_pairs
a_mark_of_19_digits = refl

pub a_blob_that_is_too_long : verdict start (codes "blob\ndata 16777217\n") ≡ record { commands = []; fault = Some (Limit 5 BlobBytes) }
unfolding any_line line_at block_at option_line need_line first_word number mark target data_behind blob_data message_data last_path first_path two_paths path_of unquote is_ref_name is_ident mode dataref modify_line modify change_line change mark_lines blob people ref_line parents head reset command_line turn read_command verdict_from decode_pairs
a_blob_that_is_too_long = refl

pub data_up_to_a_delimiter : verdict start (codes "blob\ndata <<EOF\n") ≡ record { commands = []; fault = Some (Unsupported 5 Delimiter) }
unfolding any_line line_at block_at option_line need_line first_word number mark target data_behind blob_data message_data last_path first_path two_paths path_of unquote is_ref_name is_ident mode dataref modify_line modify change_line change mark_lines blob people ref_line parents head reset command_line turn read_command verdict_from decode_pairs
data_up_to_a_delimiter = refl

pub a_delimiter_elsewhere : verdict start (codes "data <<EOF\n") ≡ record { commands = []; fault = Some (Syntax 0) }
unfolding any_line line_at block_at option_line need_line first_word number mark target data_behind blob_data message_data last_path first_path two_paths path_of unquote is_ref_name is_ident mode dataref modify_line modify change_line change mark_lines blob people ref_line parents head reset command_line turn read_command verdict_from decode_pairs
a_delimiter_elsewhere = refl

pub a_reset : verdict start (codes "reset refs/heads/a\nfrom :3\n\nreset refs/heads/b\n") ≡ record { commands = record { at = 0; command = Reset (codes "refs/heads/a") (Some (record { at = 19; target = Mark 3 })) } ∷ record { at = 28; command = Reset (codes "refs/heads/b") None } ∷ []; fault = None }
unfolding any_line line_at block_at option_line need_line first_word number mark target data_behind blob_data message_data last_path first_path two_paths path_of unquote is_ref_name is_ident mode dataref modify_line modify change_line change mark_lines blob people ref_line parents head reset command_line turn read_command verdict_from decode_pairs
a_reset = refl

pub a_ref_with_a_zero : verdict start (codes "reset refs/heads/a\nfrom refs/heads/b^0\n") ≡ record { commands = record { at = 0; command = Reset (codes "refs/heads/a") (Some (record { at = 19; target = Ref (codes "refs/heads/b") })) } ∷ []; fault = None }
unfolding any_line line_at block_at option_line need_line first_word number mark target data_behind blob_data message_data last_path first_path two_paths path_of unquote is_ref_name is_ident mode dataref modify_line modify change_line change mark_lines blob people ref_line parents head reset command_line turn read_command verdict_from decode_pairs
a_ref_with_a_zero = refl

pub a_bad_ref : verdict start (codes "reset a\nfrom :0\n") ≡ record { commands = []; fault = Some (Syntax 0) }
unfolding any_line line_at block_at option_line need_line first_word number mark target data_behind blob_data message_data last_path first_path two_paths path_of unquote is_ref_name is_ident mode dataref modify_line modify change_line change mark_lines blob people ref_line parents head reset command_line turn read_command verdict_from decode_pairs
a_bad_ref = refl

pub the_zero_name : verdict start (codes "reset refs/heads/a\nfrom 0000000000000000000000000000000000000000\n") ≡ record { commands = []; fault = Some (Unsupported 19 ZeroName) }
unfolding any_line line_at block_at option_line need_line first_word number mark target data_behind blob_data message_data last_path first_path two_paths path_of unquote is_ref_name is_ident mode dataref modify_line modify change_line change mark_lines blob people ref_line parents head reset command_line turn read_command verdict_from decode_pairs
the_zero_name = refl

pub from_with_nothing_behind_it : verdict start (codes "reset refs/heads/a\nfrom\n") ≡ record { commands = record { at = 0; command = Reset (codes "refs/heads/a") None } ∷ []; fault = Some (Syntax 19) }
unfolding any_line line_at block_at option_line need_line first_word number mark target data_behind blob_data message_data last_path first_path two_paths path_of unquote is_ref_name is_ident mode dataref modify_line modify change_line change mark_lines blob people ref_line parents head reset command_line turn read_command verdict_from decode_pairs
from_with_nothing_behind_it = refl

pub a_tag : verdict start (codes "tag v1\n") ≡ record { commands = []; fault = Some (Unsupported 0 Tag) }
unfolding any_line line_at block_at option_line need_line first_word number mark target data_behind blob_data message_data last_path first_path two_paths path_of unquote is_ref_name is_ident mode dataref modify_line modify change_line change mark_lines blob people ref_line parents head reset command_line turn read_command verdict_from decode_pairs
a_tag = refl

pub tags : verdict start (codes "tags\n") ≡ record { commands = []; fault = Some (Syntax 0) }
unfolding any_line line_at block_at option_line need_line first_word number mark target data_behind blob_data message_data last_path first_path two_paths path_of unquote is_ref_name is_ident mode dataref modify_line modify change_line change mark_lines blob people ref_line parents head reset command_line turn read_command verdict_from decode_pairs
tags = refl

pub an_option : verdict start (codes "option quiet\n") ≡ record { commands = []; fault = Some (Unsupported 0 Options) }
unfolding any_line line_at block_at option_line need_line first_word number mark target data_behind blob_data message_data last_path first_path two_paths path_of unquote is_ref_name is_ident mode dataref modify_line modify change_line change mark_lines blob people ref_line parents head reset command_line turn read_command verdict_from decode_pairs
an_option = refl

pub notes : verdict start (codes "N\n") ≡ record { commands = []; fault = Some (Unsupported 0 Notes) }
unfolding any_line line_at block_at option_line need_line first_word number mark target data_behind blob_data message_data last_path first_path two_paths path_of unquote is_ref_name is_ident mode dataref modify_line modify change_line change mark_lines blob people ref_line parents head reset command_line turn read_command verdict_from decode_pairs
notes = refl

pub other_features : verdict start (codes "feature done\nfeature dones\n") ≡ record { commands = []; fault = Some (Unsupported 13 FeatureLine) }
unfolding any_line line_at block_at option_line need_line first_word number mark target data_behind blob_data message_data last_path first_path two_paths path_of unquote is_ref_name is_ident mode dataref modify_line modify change_line change mark_lines blob people ref_line parents head reset command_line turn read_command verdict_from decode_pairs
other_features = refl

pub progress_and_a_checkpoint : verdict start (codes "progress \ncheckpoint\n") ≡ record { commands = []; fault = None }
unfolding any_line line_at block_at option_line need_line first_word number mark target data_behind blob_data message_data last_path first_path two_paths path_of unquote is_ref_name is_ident mode dataref modify_line modify change_line change mark_lines blob people ref_line parents head reset command_line turn read_command verdict_from decode_pairs
progress_and_a_checkpoint = refl

pub progress_alone : verdict start (codes "progress\n") ≡ record { commands = []; fault = Some (Syntax 0) }
unfolding any_line line_at block_at option_line need_line first_word number mark target data_behind blob_data message_data last_path first_path two_paths path_of unquote is_ref_name is_ident mode dataref modify_line modify change_line change mark_lines blob people ref_line parents head reset command_line turn read_command verdict_from decode_pairs
progress_alone = refl

pub done_ends : verdict start (codes "done\nnonsense") ≡ record { commands = record { at = 0; command = Done } ∷ []; fault = None }
unfolding any_line line_at block_at option_line need_line first_word number mark target data_behind blob_data message_data last_path first_path two_paths path_of unquote is_ref_name is_ident mode dataref modify_line modify change_line change mark_lines blob people ref_line parents head reset command_line turn read_command verdict_from decode_pairs
done_ends = refl

pub done_is_wanted : verdict start (codes "feature done\nprogress x\n") ≡ record { commands = []; fault = Some (Syntax 24) }
unfolding any_line line_at block_at option_line need_line first_word number mark target data_behind blob_data message_data last_path first_path two_paths path_of unquote is_ref_name is_ident mode dataref modify_line modify change_line change mark_lines blob people ref_line parents head reset command_line turn read_command verdict_from decode_pairs
done_is_wanted = refl

pub done_comes : verdict start (codes "feature done\ndone") ≡ record { commands = record { at = 13; command = Done } ∷ []; fault = None }
unfolding any_line line_at block_at option_line need_line first_word number mark target data_behind blob_data message_data last_path first_path two_paths path_of unquote is_ref_name is_ident mode dataref modify_line modify change_line change mark_lines blob people ref_line parents head reset command_line turn read_command verdict_from decode_pairs
done_comes = refl

pub done_in_a_commit : verdict start (codes "commit refs/heads/main\ncommitter <> 1 +0\ndata 0\ndone\n") ≡ record { commands = record { at = 0; command = Commit (record { refname = codes "refs/heads/main"; mark = None; author = codes "<> 1 +0"; committer = codes "<> 1 +0"; message = codes ""; from = None; merges = [] }) } ∷ record { at = 48; command = CommitEnd } ∷ record { at = 48; command = Done } ∷ []; fault = None }
unfolding any_line line_at block_at option_line need_line first_word number mark target data_behind blob_data message_data last_path first_path two_paths path_of unquote is_ref_name is_ident mode dataref modify_line modify change_line change mark_lines blob people ref_line parents head reset command_line turn read_command verdict_from decode_pairs
done_in_a_commit = refl

pub done_is_wanted_behind_a_commit : verdict start (codes "feature done\ncommit refs/heads/main\ncommitter <> 1 +0\ndata 0\n") ≡ record { commands = record { at = 13; command = Commit (record { refname = codes "refs/heads/main"; mark = None; author = codes "<> 1 +0"; committer = codes "<> 1 +0"; message = codes ""; from = None; merges = [] }) } ∷ record { at = 61; command = CommitEnd } ∷ []; fault = Some (Syntax 61) }
unfolding any_line line_at block_at option_line need_line first_word number mark target data_behind blob_data message_data last_path first_path two_paths path_of unquote is_ref_name is_ident mode dataref modify_line modify change_line change mark_lines blob people ref_line parents head reset command_line turn read_command verdict_from decode_pairs
done_is_wanted_behind_a_commit = refl

pub an_empty_line_ends_a_commit : verdict start (codes "commit refs/heads/main\ncommitter <> 1 +0\ndata 0\n#c\n\nR x y\n") ≡ record { commands = record { at = 0; command = Commit (record { refname = codes "refs/heads/main"; mark = None; author = codes "<> 1 +0"; committer = codes "<> 1 +0"; message = codes ""; from = None; merges = [] }) } ∷ record { at = 51; command = CommitEnd } ∷ []; fault = Some (Syntax 52) }
unfolding any_line line_at block_at option_line need_line first_word number mark target data_behind blob_data message_data last_path first_path two_paths path_of unquote is_ref_name is_ident mode dataref modify_line modify change_line change mark_lines blob people ref_line parents head reset command_line turn read_command verdict_from decode_pairs
an_empty_line_ends_a_commit = refl

pub a_module : verdict start (codes "commit refs/heads/main\ncommitter <> 1 +0\ndata 0\nM 160000 abababababababababababababababababababab a\n") ≡ record { commands = record { at = 0; command = Commit (record { refname = codes "refs/heads/main"; mark = None; author = codes "<> 1 +0"; committer = codes "<> 1 +0"; message = codes ""; from = None; merges = [] }) } ∷ record { at = 48; command = Change (Modify Module (DigitsOf (record { 0 = replicate 20 171 })) (codes "a" ∷ [])) } ∷ record { at = 100; command = CommitEnd } ∷ []; fault = None }
unfolding any_line line_at block_at option_line need_line first_word number mark target data_behind blob_data message_data last_path first_path two_paths path_of unquote is_ref_name is_ident mode dataref modify_line modify change_line change mark_lines blob people ref_line parents head reset command_line turn read_command verdict_from decode_pairs
a_module = refl

pub a_module_by_a_mark : verdict start (codes "commit refs/heads/main\ncommitter <> 1 +0\ndata 0\nM 160000 :1 a\n") ≡ record { commands = record { at = 0; command = Commit (record { refname = codes "refs/heads/main"; mark = None; author = codes "<> 1 +0"; committer = codes "<> 1 +0"; message = codes ""; from = None; merges = [] }) } ∷ []; fault = Some (Unsupported 48 LinkTarget) }
unfolding any_line line_at block_at option_line need_line first_word number mark target data_behind blob_data message_data last_path first_path two_paths path_of unquote is_ref_name is_ident mode dataref modify_line modify change_line change mark_lines blob people ref_line parents head reset command_line turn read_command verdict_from decode_pairs
a_module_by_a_mark = refl

pub a_module_of_no_mark : verdict start (codes "commit refs/heads/main\ncommitter <> 1 +0\ndata 0\nM 160000 :0 a\n") ≡ record { commands = record { at = 0; command = Commit (record { refname = codes "refs/heads/main"; mark = None; author = codes "<> 1 +0"; committer = codes "<> 1 +0"; message = codes ""; from = None; merges = [] }) } ∷ []; fault = Some (Syntax 48) }
unfolding any_line line_at block_at option_line need_line first_word number mark target data_behind blob_data message_data last_path first_path two_paths path_of unquote is_ref_name is_ident mode dataref modify_line modify change_line change mark_lines blob people ref_line parents head reset command_line turn read_command verdict_from decode_pairs
a_module_of_no_mark = refl

pub a_directory : verdict start (codes "commit refs/heads/main\ncommitter <> 1 +0\ndata 0\nM 040000 :1 a\n") ≡ record { commands = record { at = 0; command = Commit (record { refname = codes "refs/heads/main"; mark = None; author = codes "<> 1 +0"; committer = codes "<> 1 +0"; message = codes ""; from = None; merges = [] }) } ∷ []; fault = Some (Unsupported 48 DirectoryMode) }
unfolding any_line line_at block_at option_line need_line first_word number mark target data_behind blob_data message_data last_path first_path two_paths path_of unquote is_ref_name is_ident mode dataref modify_line modify change_line change mark_lines blob people ref_line parents head reset command_line turn read_command verdict_from decode_pairs
a_directory = refl

pub a_directory_with_nothing_behind_it : verdict start (codes "commit refs/heads/main\ncommitter <> 1 +0\ndata 0\nM 40000\n") ≡ record { commands = record { at = 0; command = Commit (record { refname = codes "refs/heads/main"; mark = None; author = codes "<> 1 +0"; committer = codes "<> 1 +0"; message = codes ""; from = None; merges = [] }) } ∷ []; fault = Some (Unsupported 48 DirectoryMode) }
unfolding any_line line_at block_at option_line need_line first_word number mark target data_behind blob_data message_data last_path first_path two_paths path_of unquote is_ref_name is_ident mode dataref modify_line modify change_line change mark_lines blob people ref_line parents head reset command_line turn read_command verdict_from decode_pairs
a_directory_with_nothing_behind_it = refl

pub no_path : verdict start (codes "commit refs/heads/main\ncommitter <> 1 +0\ndata 0\nM 644 :1\n") ≡ record { commands = record { at = 0; command = Commit (record { refname = codes "refs/heads/main"; mark = None; author = codes "<> 1 +0"; committer = codes "<> 1 +0"; message = codes ""; from = None; merges = [] }) } ∷ []; fault = Some (Syntax 48) }
unfolding any_line line_at block_at option_line need_line first_word number mark target data_behind blob_data message_data last_path first_path two_paths path_of unquote is_ref_name is_ident mode dataref modify_line modify change_line change mark_lines blob people ref_line parents head reset command_line turn read_command verdict_from decode_pairs
no_path = refl

pub an_empty_path : verdict start (codes "commit refs/heads/main\ncommitter <> 1 +0\ndata 0\nM 644 :1 \n") ≡ record { commands = record { at = 0; command = Commit (record { refname = codes "refs/heads/main"; mark = None; author = codes "<> 1 +0"; committer = codes "<> 1 +0"; message = codes ""; from = None; merges = [] }) } ∷ []; fault = Some (Unsupported 48 EmptyPath) }
unfolding any_line line_at block_at option_line need_line first_word number mark target data_behind blob_data message_data last_path first_path two_paths path_of unquote is_ref_name is_ident mode dataref modify_line modify change_line change mark_lines blob people ref_line parents head reset command_line turn read_command verdict_from decode_pairs
an_empty_path = refl

pub an_executable : verdict start (codes "commit refs/heads/main\ncommitter <> 1 +0\ndata 0\nM 755 :1 a b\n") ≡ record { commands = record { at = 0; command = Commit (record { refname = codes "refs/heads/main"; mark = None; author = codes "<> 1 +0"; committer = codes "<> 1 +0"; message = codes ""; from = None; merges = [] }) } ∷ record { at = 48; command = Change (Modify Exec (MarkOf 1) (codes "a b" ∷ [])) } ∷ record { at = 61; command = CommitEnd } ∷ []; fault = None }
unfolding any_line line_at block_at option_line need_line first_word number mark target data_behind blob_data message_data last_path first_path two_paths path_of unquote is_ref_name is_ident mode dataref modify_line modify change_line change mark_lines blob people ref_line parents head reset command_line turn read_command verdict_from decode_pairs
an_executable = refl

pub a_quoted_path : verdict start (codes "commit refs/heads/main\ncommitter <> 1 +0\ndata 0\nD \"\\303\\251\"\n") ≡ record { commands = record { at = 0; command = Commit (record { refname = codes "refs/heads/main"; mark = None; author = codes "<> 1 +0"; committer = codes "<> 1 +0"; message = codes ""; from = None; merges = [] }) } ∷ record { at = 48; command = Change (Delete ((195 ∷ 169 ∷ []) ∷ [])) } ∷ record { at = 61; command = CommitEnd } ∷ []; fault = None }
unfolding any_line line_at block_at option_line need_line first_word number mark target data_behind blob_data message_data last_path first_path two_paths path_of unquote is_ref_name is_ident mode dataref modify_line modify change_line change mark_lines blob people ref_line parents head reset command_line turn read_command verdict_from decode_pairs
a_quoted_path = refl

pub bytes_behind_a_quote : verdict start (codes "commit refs/heads/main\ncommitter <> 1 +0\ndata 0\nD \"a\" \n") ≡ record { commands = record { at = 0; command = Commit (record { refname = codes "refs/heads/main"; mark = None; author = codes "<> 1 +0"; committer = codes "<> 1 +0"; message = codes ""; from = None; merges = [] }) } ∷ []; fault = Some (BadPath 48) }
unfolding any_line line_at block_at option_line need_line first_word number mark target data_behind blob_data message_data last_path first_path two_paths path_of unquote is_ref_name is_ident mode dataref modify_line modify change_line change mark_lines blob people ref_line parents head reset command_line turn read_command verdict_from decode_pairs
bytes_behind_a_quote = refl

pub bytes_behind_a_quote_first : verdict start (codes "commit refs/heads/main\ncommitter <> 1 +0\ndata 0\nD \"\"x\n") ≡ record { commands = record { at = 0; command = Commit (record { refname = codes "refs/heads/main"; mark = None; author = codes "<> 1 +0"; committer = codes "<> 1 +0"; message = codes ""; from = None; merges = [] }) } ∷ []; fault = Some (BadPath 48) }
unfolding any_line line_at block_at option_line need_line first_word number mark target data_behind blob_data message_data last_path first_path two_paths path_of unquote is_ref_name is_ident mode dataref modify_line modify change_line change mark_lines blob people ref_line parents head reset command_line turn read_command verdict_from decode_pairs
bytes_behind_a_quote_first = refl

pub two_paths_of_a_rename : verdict start (codes "commit refs/heads/main\ncommitter <> 1 +0\ndata 0\nR \"a\" b c\n") ≡ record { commands = record { at = 0; command = Commit (record { refname = codes "refs/heads/main"; mark = None; author = codes "<> 1 +0"; committer = codes "<> 1 +0"; message = codes ""; from = None; merges = [] }) } ∷ record { at = 48; command = Change (Rename (codes "a" ∷ []) (codes "b c" ∷ [])) } ∷ record { at = 58; command = CommitEnd } ∷ []; fault = None }
unfolding any_line line_at block_at option_line need_line first_word number mark target data_behind blob_data message_data last_path first_path two_paths path_of unquote is_ref_name is_ident mode dataref modify_line modify change_line change mark_lines blob people ref_line parents head reset command_line turn read_command verdict_from decode_pairs
two_paths_of_a_rename = refl

pub a_copy : verdict start (codes "commit refs/heads/main\ncommitter <> 1 +0\ndata 0\nC a \"b\"\n") ≡ record { commands = record { at = 0; command = Commit (record { refname = codes "refs/heads/main"; mark = None; author = codes "<> 1 +0"; committer = codes "<> 1 +0"; message = codes ""; from = None; merges = [] }) } ∷ record { at = 48; command = Change (Copy (codes "a" ∷ []) (codes "b" ∷ [])) } ∷ record { at = 56; command = CommitEnd } ∷ []; fault = None }
unfolding any_line line_at block_at option_line need_line first_word number mark target data_behind blob_data message_data last_path first_path two_paths path_of unquote is_ref_name is_ident mode dataref modify_line modify change_line change mark_lines blob people ref_line parents head reset command_line turn read_command verdict_from decode_pairs
a_copy = refl

pub no_second_path : verdict start (codes "commit refs/heads/main\ncommitter <> 1 +0\ndata 0\nR a\n") ≡ record { commands = record { at = 0; command = Commit (record { refname = codes "refs/heads/main"; mark = None; author = codes "<> 1 +0"; committer = codes "<> 1 +0"; message = codes ""; from = None; merges = [] }) } ∷ []; fault = Some (BadPath 48) }
unfolding any_line line_at block_at option_line need_line first_word number mark target data_behind blob_data message_data last_path first_path two_paths path_of unquote is_ref_name is_ident mode dataref modify_line modify change_line change mark_lines blob people ref_line parents head reset command_line turn read_command verdict_from decode_pairs
no_second_path = refl

pub an_empty_second_path : verdict start (codes "commit refs/heads/main\ncommitter <> 1 +0\ndata 0\nR a \n") ≡ record { commands = record { at = 0; command = Commit (record { refname = codes "refs/heads/main"; mark = None; author = codes "<> 1 +0"; committer = codes "<> 1 +0"; message = codes ""; from = None; merges = [] }) } ∷ []; fault = Some (Unsupported 48 EmptyPath) }
unfolding any_line line_at block_at option_line need_line first_word number mark target data_behind blob_data message_data last_path first_path two_paths path_of unquote is_ref_name is_ident mode dataref modify_line modify change_line change mark_lines blob people ref_line parents head reset command_line turn read_command verdict_from decode_pairs
an_empty_second_path = refl

pub an_empty_first_path : verdict start (codes "commit refs/heads/main\ncommitter <> 1 +0\ndata 0\nR \n") ≡ record { commands = record { at = 0; command = Commit (record { refname = codes "refs/heads/main"; mark = None; author = codes "<> 1 +0"; committer = codes "<> 1 +0"; message = codes ""; from = None; merges = [] }) } ∷ []; fault = Some (Unsupported 48 EmptyPath) }
unfolding any_line line_at block_at option_line need_line first_word number mark target data_behind blob_data message_data last_path first_path two_paths path_of unquote is_ref_name is_ident mode dataref modify_line modify change_line change mark_lines blob people ref_line parents head reset command_line turn read_command verdict_from decode_pairs
an_empty_first_path = refl

pub all_is_deleted : verdict start (codes "commit refs/heads/main\ncommitter <> 1 +0\ndata 0\ndeleteall\n") ≡ record { commands = record { at = 0; command = Commit (record { refname = codes "refs/heads/main"; mark = None; author = codes "<> 1 +0"; committer = codes "<> 1 +0"; message = codes ""; from = None; merges = [] }) } ∷ record { at = 48; command = Change (DeleteAll) } ∷ record { at = 58; command = CommitEnd } ∷ []; fault = None }
unfolding any_line line_at block_at option_line need_line first_word number mark target data_behind blob_data message_data last_path first_path two_paths path_of unquote is_ref_name is_ident mode dataref modify_line modify change_line change mark_lines blob people ref_line parents head reset command_line turn read_command verdict_from decode_pairs
all_is_deleted = refl

pub notes_in_a_commit : verdict start (codes "commit refs/heads/main\ncommitter <> 1 +0\ndata 0\nN :1 :2\n") ≡ record { commands = record { at = 0; command = Commit (record { refname = codes "refs/heads/main"; mark = None; author = codes "<> 1 +0"; committer = codes "<> 1 +0"; message = codes ""; from = None; merges = [] }) } ∷ []; fault = Some (Unsupported 48 Notes) }
unfolding any_line line_at block_at option_line need_line first_word number mark target data_behind blob_data message_data last_path first_path two_paths path_of unquote is_ref_name is_ident mode dataref modify_line modify change_line change mark_lines blob people ref_line parents head reset command_line turn read_command verdict_from decode_pairs
notes_in_a_commit = refl

pub a_line_that_is_no_change : verdict start (codes "commit refs/heads/main\ncommitter <> 1 +0\ndata 0\ndeleteall x\n") ≡ record { commands = record { at = 0; command = Commit (record { refname = codes "refs/heads/main"; mark = None; author = codes "<> 1 +0"; committer = codes "<> 1 +0"; message = codes ""; from = None; merges = [] }) } ∷ record { at = 48; command = CommitEnd } ∷ []; fault = Some (Syntax 48) }
unfolding any_line line_at block_at option_line need_line first_word number mark target data_behind blob_data message_data last_path first_path two_paths path_of unquote is_ref_name is_ident mode dataref modify_line modify change_line change mark_lines blob people ref_line parents head reset command_line turn read_command verdict_from decode_pairs
a_line_that_is_no_change = refl

pub an_author_and_merges : verdict start (codes "commit refs/heads/main\nauthor A <> 1 +0\ncommitter <> 1 +0\ndata 0\nfrom :1\nmerge refs/heads/b\nmerge :2\n") ≡ record { commands = record { at = 0; command = Commit (record { refname = codes "refs/heads/main"; mark = None; author = codes "A <> 1 +0"; committer = codes "<> 1 +0"; message = codes ""; from = Some (record { at = 65; target = Mark 1 }); merges = record { at = 73; target = Ref (codes "refs/heads/b") } ∷ record { at = 92; target = Mark 2 } ∷ [] }) } ∷ record { at = 101; command = CommitEnd } ∷ []; fault = None }
unfolding any_line line_at block_at option_line need_line first_word number mark target data_behind blob_data message_data last_path first_path two_paths path_of unquote is_ref_name is_ident mode dataref modify_line modify change_line change mark_lines blob people ref_line parents head reset command_line turn read_command verdict_from decode_pairs
an_author_and_merges = refl

pub sixteen_parents : verdict start (codes "commit refs/heads/main\ncommitter <> 1 +0\ndata 0\nfrom :1\nmerge :1\nmerge :1\nmerge :1\nmerge :1\nmerge :1\nmerge :1\nmerge :1\nmerge :1\nmerge :1\nmerge :1\nmerge :1\nmerge :1\nmerge :1\nmerge :1\nmerge :1\n") ≡ record { commands = record { at = 0; command = Commit (record { refname = codes "refs/heads/main"; mark = None; author = codes "<> 1 +0"; committer = codes "<> 1 +0"; message = codes ""; from = Some (record { at = 48; target = Mark 1 }); merges = record { at = 56; target = Mark 1 } ∷ record { at = 65; target = Mark 1 } ∷ record { at = 74; target = Mark 1 } ∷ record { at = 83; target = Mark 1 } ∷ record { at = 92; target = Mark 1 } ∷ record { at = 101; target = Mark 1 } ∷ record { at = 110; target = Mark 1 } ∷ record { at = 119; target = Mark 1 } ∷ record { at = 128; target = Mark 1 } ∷ record { at = 137; target = Mark 1 } ∷ record { at = 146; target = Mark 1 } ∷ record { at = 155; target = Mark 1 } ∷ record { at = 164; target = Mark 1 } ∷ record { at = 173; target = Mark 1 } ∷ record { at = 182; target = Mark 1 } ∷ [] }) } ∷ record { at = 191; command = CommitEnd } ∷ []; fault = None }
unfolding any_line line_at block_at option_line need_line first_word number mark target data_behind blob_data message_data last_path first_path two_paths path_of unquote is_ref_name is_ident mode dataref modify_line modify change_line change mark_lines blob people ref_line parents head reset command_line turn read_command verdict_from decode_pairs
sixteen_parents = refl

pub seventeen_parents : verdict start (codes "commit refs/heads/main\ncommitter <> 1 +0\ndata 0\nfrom :1\nmerge :1\nmerge :1\nmerge :1\nmerge :1\nmerge :1\nmerge :1\nmerge :1\nmerge :1\nmerge :1\nmerge :1\nmerge :1\nmerge :1\nmerge :1\nmerge :1\nmerge :1\nmerge :1\n") ≡ record { commands = []; fault = Some (Limit 191 Parents) }
unfolding any_line line_at block_at option_line need_line first_word number mark target data_behind blob_data message_data last_path first_path two_paths path_of unquote is_ref_name is_ident mode dataref modify_line modify change_line change mark_lines blob people ref_line parents head reset command_line turn read_command verdict_from decode_pairs
seventeen_parents = refl

pub a_bad_seventeenth_parent : verdict start (codes "commit refs/heads/main\ncommitter <> 1 +0\ndata 0\nmerge :1\nmerge :1\nmerge :1\nmerge :1\nmerge :1\nmerge :1\nmerge :1\nmerge :1\nmerge :1\nmerge :1\nmerge :1\nmerge :1\nmerge :1\nmerge :1\nmerge :1\nmerge :1\nmerge x\n") ≡ record { commands = []; fault = Some (Syntax 192) }
unfolding any_line line_at block_at option_line need_line first_word number mark target data_behind blob_data message_data last_path first_path two_paths path_of unquote is_ref_name is_ident mode dataref modify_line modify change_line change mark_lines blob people ref_line parents head reset command_line turn read_command verdict_from decode_pairs
a_bad_seventeenth_parent = refl

pub an_encoding : verdict start (codes "commit refs/heads/main\ncommitter <> 1 +0\nencoding x\n") ≡ record { commands = []; fault = Some (Unsupported 41 Encoding) }
unfolding any_line line_at block_at option_line need_line first_word number mark target data_behind blob_data message_data last_path first_path two_paths path_of unquote is_ref_name is_ident mode dataref modify_line modify change_line change mark_lines blob people ref_line parents head reset command_line turn read_command verdict_from decode_pairs
an_encoding = refl

pub a_signature : verdict start (codes "commit refs/heads/main\ncommitter <> 1 +0\ngpgsig x\n") ≡ record { commands = []; fault = Some (Unsupported 41 Signature) }
unfolding any_line line_at block_at option_line need_line first_word number mark target data_behind blob_data message_data last_path first_path two_paths path_of unquote is_ref_name is_ident mode dataref modify_line modify change_line change mark_lines blob people ref_line parents head reset command_line turn read_command verdict_from decode_pairs
a_signature = refl

pub no_committer : verdict start (codes "commit refs/heads/main\nauthor <> 1 +0\n") ≡ record { commands = []; fault = Some (Syntax 38) }
unfolding any_line line_at block_at option_line need_line first_word number mark target data_behind blob_data message_data last_path first_path two_paths path_of unquote is_ref_name is_ident mode dataref modify_line modify change_line change mark_lines blob people ref_line parents head reset command_line turn read_command verdict_from decode_pairs
no_committer = refl

pub a_bad_ident : verdict start (codes "commit refs/heads/main\nauthor x\n") ≡ record { commands = []; fault = Some (Syntax 23) }
unfolding any_line line_at block_at option_line need_line first_word number mark target data_behind blob_data message_data last_path first_path two_paths path_of unquote is_ref_name is_ident mode dataref modify_line modify change_line change mark_lines blob people ref_line parents head reset command_line turn read_command verdict_from decode_pairs
a_bad_ident = refl

pub a_message_that_is_too_long : verdict start (codes "commit refs/heads/main\ncommitter <> 1 +0\ndata 1048577\n") ≡ record { commands = []; fault = Some (Limit 41 Message) }
unfolding any_line line_at block_at option_line need_line first_word number mark target data_behind blob_data message_data last_path first_path two_paths path_of unquote is_ref_name is_ident mode dataref modify_line modify change_line change mark_lines blob people ref_line parents head reset command_line turn read_command verdict_from decode_pairs
a_message_that_is_too_long = refl

pub a_stream_of_many_kinds_of_lines : verdict start (codes "blob\nmark :1\noriginal-oid ce013625030ba8dba906f756967f9e9ca394464a\ndata 6\nhello\n\nreset refs/heads/main\ncommit refs/heads/main\nmark :2\nauthor A <a@x> 1700000000 +0000\ncommitter A <a@x> 1700000000 +0000\ndata 5\ninit\nM 100644 :1 README\nM 160000 3b18e512dba79e4c8300dd08aeb37f8e728b8dad sub\nM 100755 :1 \"\\303\\251.txt\"\n\nprogress one commit\ncommit refs/heads/main\nmark :3\nauthor A <a@x> 1700000001 +0000\ncommitter B <b@x> 1700000002 +0100\ndata 4\nnextfrom :2\ndeleteall\nM 120000 :1 README\n\nreset refs/heads/main\nfrom :3\n\n") ≡ record { commands = record { at = 0; command = Blob (Some 1) (codes "hello\n") } ∷ record { at = 81; command = Reset (codes "refs/heads/main") None } ∷ record { at = 103; command = Commit (record { refname = codes "refs/heads/main"; mark = Some 2; author = codes "A <a@x> 1700000000 +0000"; committer = codes "A <a@x> 1700000000 +0000"; message = codes "init\n"; from = None; merges = [] }) } ∷ record { at = 213; command = Change (Modify File (MarkOf 1) (codes "README" ∷ [])) } ∷ record { at = 232; command = Change (Modify Module (DigitsOf (record { 0 = 59 ∷ 24 ∷ 229 ∷ 18 ∷ 219 ∷ 167 ∷ 158 ∷ 76 ∷ 131 ∷ 0 ∷ 221 ∷ 8 ∷ 174 ∷ 179 ∷ 127 ∷ 142 ∷ 114 ∷ 139 ∷ 141 ∷ 173 ∷ [] })) (codes "sub" ∷ [])) } ∷ record { at = 286; command = Change (Modify Exec (MarkOf 1) ((195 ∷ 169 ∷ codes ".txt") ∷ [])) } ∷ record { at = 313; command = CommitEnd } ∷ record { at = 334; command = Commit (record { refname = codes "refs/heads/main"; mark = Some 3; author = codes "A <a@x> 1700000001 +0000"; committer = codes "B <b@x> 1700000002 +0100"; message = codes "next"; from = Some (record { at = 443; target = Mark 2 }); merges = [] }) } ∷ record { at = 451; command = Change DeleteAll } ∷ record { at = 461; command = Change (Modify Link (MarkOf 1) (codes "README" ∷ [])) } ∷ record { at = 480; command = CommitEnd } ∷ record { at = 481; command = Reset (codes "refs/heads/main") (Some (record { at = 503; target = Mark 3 })) } ∷ []; fault = None }
unfolding any_line line_at block_at option_line need_line first_word number mark target data_behind blob_data message_data last_path first_path two_paths path_of unquote is_ref_name is_ident mode dataref modify_line modify change_line change mark_lines blob people ref_line parents head reset command_line turn read_command verdict_from decode_pairs
a_stream_of_many_kinds_of_lines = refl
