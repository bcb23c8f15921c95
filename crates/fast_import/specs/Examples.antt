-- Worked examples of replays.
use Rattle.std.specs.Prelude.{◌≡◌, refl, [], ◌∷◌, ◌++◌, codes, take, Ok, Err}
use Rattle.std.specs.Fmt.{digits}
use Rattle.hex.specs.Hex.{encode_with, decode_pairs}
use Rattle.sha1.specs.Sha1.{sha1, first_words, schedule, rounds, compress, hash_after, digest_bytes}
use Rattle.git_objects.specs.Paths.{Bytes}
use Rattle.git_objects.specs.Trees.{Flat, FileLeaf, ExecLeaf, LinkLeaf, ModuleLeaf, put, remove}
use Rattle.git_objects.specs.Names.{name, body, line}
use Rattle.git_objects.specs.Idents.{is_ident}
use Rattle.git_objects.specs.Commits.{Letter, commit_body, commit_name}
use Rattle.git_objects.specs.Snapshots.{Snapshot, snapshot_name}
use Rattle.path_names.specs.PathTexts.{path_of}
use Rattle.path_names.specs.Quoting.{unquote}
use Rattle.path_names.specs.RefNames.{is_ref_name}
use Rattle.path_names.specs.Words.{number}
use Rattle.stream_lex.specs.Lines.{any_line, line_at, block_at}
use Rattle.stream_reader.specs.declared.command.Change.TheVariants.{Delete, Rename, Copy}
use Rattle.stream_reader.specs.declared.fault.StreamFault.TheVariants.{Syntax, Unresolved, NoSource}
use Rattle.stream_reader.specs.Words.{first_word, mark}
use Rattle.stream_reader.specs.Reading.{option_line, need_line}
use Rattle.stream_reader.specs.Names.{target}
use Rattle.stream_reader.specs.Blocks.{data_behind, blob_data, message_data}
use Rattle.stream_reader.specs.PathWords.{last_path, first_path, two_paths}
use Rattle.stream_reader.specs.Changes.{mode, dataref, modify_line, modify, change_line, change}
use Rattle.stream_reader.specs.Heads.{mark_lines, blob, people, ref_line, parents, head, reset}
use Rattle.stream_reader.specs.Commands.{command_line, turn, read_command}
use Rattle.stream_reader.specs.Verdicts.{verdict_from}
use Rattle.fast_import.specs.Replays.{Base, edited, empty_base, nothing_yet, ran, replay}
use Rattle.fast_import.specs.Waited.{waited, waited_from}

abbrev main : Bytes
main = codes "refs/heads/main"

abbrev side : Bytes
side = codes "refs/heads/side"

abbrev hello : Bytes
hello = codes "hello\n"

abbrev ident : Bytes
ident = codes "A <a@x> 1700000000 +0000"

abbrev letter : Bytes → Letter
letter message = record { author = ident; committer = ident; message = message }

abbrev a : Bytes
a = codes "a"

abbrev b : Bytes
b = codes "b"

abbrev c : Bytes
c = codes "c"

-- ---- changes of one commit

abbrev one_a : Flat
one_a = (a ∷ [], FileLeaf hello) ∷ []

abbrev below_a : Flat
below_a = (a ∷ b ∷ [], FileLeaf hello) ∷ []

pub moved_below_itself : edited empty_base nothing_yet 7 one_a (Rename (a ∷ []) (a ∷ b ∷ [])) ≡ Ok below_a
unfolding put remove
moved_below_itself = refl

pub a_directory_copied : edited empty_base nothing_yet 7 below_a (Copy (a ∷ []) (c ∷ []))
    ≡ Ok ((a ∷ b ∷ [], FileLeaf hello) ∷ (c ∷ b ∷ [], FileLeaf hello) ∷ [])
unfolding put remove
a_directory_copied = refl

pub nothing_deleted : edited empty_base nothing_yet 7 below_a (Delete (codes "q" ∷ [])) ≡ Ok below_a
unfolding put remove
nothing_deleted = refl

pub nothing_to_move : edited empty_base nothing_yet 7 below_a (Rename (codes "q" ∷ []) (codes "z" ∷ [])) ≡ Err (NoSource 7)
nothing_to_move = refl

-- ---- whole streams

-- a commit of the file a/f
abbrev small_stream : Bytes
small_stream = codes "commit refs/heads/main\ncommitter A <a@x> 1700000000 +0000\ndata 5\ninit\nM 100644 inline a/f\ndata 6\nhello\n"

abbrev small_commit : Snapshot
small_commit = record { tree = (a ∷ codes "f" ∷ [], FileLeaf hello) ∷ []; parents = []; letter = letter (codes "init\n") }

pub a_small_stream : replay empty_base small_stream
    ≡ Ok (record { blobs = hello ∷ []; commits = small_commit ∷ []; heads = (main, snapshot_name small_commit) ∷ [] })
unfolding put remove any_line line_at block_at option_line need_line first_word number mark target data_behind blob_data message_data last_path first_path two_paths path_of unquote is_ref_name is_ident mode dataref modify_line modify change_line change mark_lines blob people ref_line parents head reset command_line turn read_command verdict_from decode_pairs
a_small_stream = refl

-- what is there after it
abbrev after_it : Base
after_it = record {
  commits = (snapshot_name small_commit, small_commit.tree) ∷ [];
  refs = (main, snapshot_name small_commit) ∷ [];
  blobs = hello ∷ [];
}

-- a commit on main without `from`
abbrev root_stream : Bytes
root_stream = codes "commit refs/heads/main\ncommitter A <a@x> 1700000000 +0000\ndata 5\nroot\n"

abbrev root_commit : Snapshot
root_commit = record { tree = []; parents = []; letter = letter (codes "root\n") }

-- Without `from` a commit is upon a branch that the stream itself has set, not upon the stored ref.

pub another_root : replay after_it root_stream ≡ Ok (record { blobs = []; commits = root_commit ∷ []; heads = (main, snapshot_name root_commit) ∷ [] })
unfolding put remove any_line line_at block_at option_line need_line first_word number mark target data_behind blob_data message_data last_path first_path two_paths path_of unquote is_ref_name is_ident mode dataref modify_line modify change_line change mark_lines blob people ref_line parents head reset command_line turn read_command verdict_from decode_pairs
another_root = refl

-- on a ref that is named, a commit is upon the stored head
abbrev upon_main : Snapshot
upon_main = record { tree = small_commit.tree; parents = snapshot_name small_commit ∷ []; letter = letter (codes "next\n") }

pub upon_a_stored_ref : replay after_it (codes "commit refs/heads/side\ncommitter A <a@x> 1700000000 +0000\ndata 5\nnext\nfrom refs/heads/main\n")
    ≡ Ok (record { blobs = []; commits = upon_main ∷ []; heads = (side, snapshot_name upon_main) ∷ [] })
unfolding put remove any_line line_at block_at option_line need_line first_word number mark target data_behind blob_data message_data last_path first_path two_paths path_of unquote is_ref_name is_ident mode dataref modify_line modify change_line change mark_lines blob people ref_line parents head reset command_line turn read_command verdict_from decode_pairs commit_body commit_name encode_with body line name digits first_words schedule rounds compress hash_after digest_bytes sha1
upon_a_stored_ref = refl

-- ---- the order of what is looked up, marks and branches

abbrev no_name : Bytes
no_name = codes "1111111111111111111111111111111111111111"

-- both names are unknown: the line of `from` stands first

pub from_before_merge : replay empty_base (codes "commit refs/heads/main\ncommitter A <a@x> 1700000000 +0000\ndata 2\nx\nfrom " ++ no_name ++ codes "\nmerge " ++ no_name ++ codes "\n")
    ≡ Err (Unresolved 67)
unfolding put remove any_line line_at block_at option_line need_line first_word number mark target data_behind blob_data message_data last_path first_path two_paths path_of unquote is_ref_name is_ident mode dataref modify_line modify change_line change mark_lines blob people ref_line parents head reset command_line turn read_command verdict_from decode_pairs
from_before_merge = refl

-- the branch is unset by a reset without `from`, and the next commit is a root

pub behind_a_reset : (ran empty_base (root_stream ++ codes "\nreset refs/heads/main\n" ++ root_stream)).state.commits ≡ root_commit ∷ root_commit ∷ []
unfolding put remove any_line line_at block_at option_line need_line first_word number mark target data_behind blob_data message_data last_path first_path two_paths path_of unquote is_ref_name is_ident mode dataref modify_line modify change_line change mark_lines blob people ref_line parents head reset command_line turn read_command verdict_from decode_pairs
behind_a_reset = refl

-- such a branch is no head at the end

pub unset_at_the_end : replay empty_base (root_stream ++ codes "\nreset refs/heads/main\n") ≡ Ok (record { blobs = []; commits = root_commit ∷ []; heads = [] })
unfolding put remove any_line line_at block_at option_line need_line first_word number mark target data_behind blob_data message_data last_path first_path two_paths path_of unquote is_ref_name is_ident mode dataref modify_line modify change_line change mark_lines blob people ref_line parents head reset command_line turn read_command verdict_from decode_pairs
unset_at_the_end = refl

-- a mark that is given again names the new blob

pub a_mark_given_again : (ran empty_base (codes "blob\nmark :1\ndata 1\na\nblob\nmark :1\ndata 1\nb\n" ++ root_stream ++ codes "M 100644 :1 f\n")).state.commits
    ≡ record { tree = (codes "f" ∷ [], FileLeaf b) ∷ []; parents = []; letter = letter (codes "root\n") } ∷ []
unfolding put remove any_line line_at block_at option_line need_line first_word number mark target data_behind blob_data message_data last_path first_path two_paths path_of unquote is_ref_name is_ident mode dataref modify_line modify change_line change mark_lines blob people ref_line parents head reset command_line turn read_command verdict_from decode_pairs
a_mark_given_again = refl

-- a commit's own mark names nothing before the commit ends

pub its_own_mark : replay empty_base (codes "commit refs/heads/main\nmark :1\ncommitter A <a@x> 1700000000 +0000\ndata 2\nx\nfrom :1\n") ≡ Err (Unresolved 75)
unfolding put remove any_line line_at block_at option_line need_line first_word number mark target data_behind blob_data message_data last_path first_path two_paths path_of unquote is_ref_name is_ident mode dataref modify_line modify change_line change mark_lines blob people ref_line parents head reset command_line turn read_command verdict_from decode_pairs
its_own_mark = refl

-- ---- refused streams: what they made before is not given

abbrev refused : Bytes
refused = root_stream ++ codes "R q z\n"

pub a_refused_stream : replay empty_base refused ≡ Err (NoSource 70)
unfolding put remove any_line line_at block_at option_line need_line first_word number mark target data_behind blob_data message_data last_path first_path two_paths path_of unquote is_ref_name is_ident mode dataref modify_line modify change_line change mark_lines blob people ref_line parents head reset command_line turn read_command verdict_from decode_pairs
a_refused_stream = refl

pub a_later_fault : replay empty_base (root_stream ++ codes "\nreset refs/heads/side\nfrom :1\n") ≡ Err (Unresolved 93)
unfolding put remove any_line line_at block_at option_line need_line first_word number mark target data_behind blob_data message_data last_path first_path two_paths path_of unquote is_ref_name is_ident mode dataref modify_line modify change_line change mark_lines blob people ref_line parents head reset command_line turn read_command verdict_from decode_pairs
a_later_fault = refl

pub cut_in_the_data : replay empty_base (take 100 small_stream) ≡ Err (Syntax 90)
unfolding put remove any_line line_at block_at option_line need_line first_word number mark target data_behind blob_data message_data last_path first_path two_paths path_of unquote is_ref_name is_ident mode dataref modify_line modify change_line change mark_lines blob people ref_line parents head reset command_line turn read_command verdict_from decode_pairs
cut_in_the_data = refl

pub cut_in_the_message : replay empty_base (take 69 small_stream) ≡ Err (Syntax 58)
unfolding put remove any_line line_at block_at option_line need_line first_word number mark target data_behind blob_data message_data last_path first_path two_paths path_of unquote is_ref_name is_ident mode dataref modify_line modify change_line change mark_lines blob people ref_line parents head reset command_line turn read_command verdict_from decode_pairs
cut_in_the_message = refl

-- ---- up to which place a stream is read

-- without `done`: to its end
pub read_to_its_end : waited empty_base (codes "blob\ndata 1\na\n# end\n") ≡ 20
unfolding put remove any_line line_at block_at option_line need_line first_word number mark target data_behind blob_data message_data last_path first_path two_paths path_of unquote is_ref_name is_ident mode dataref modify_line modify change_line change mark_lines blob people ref_line parents head reset command_line turn read_command waited_from decode_pairs
read_to_its_end = refl

-- behind the line `done`
pub read_to_done : waited empty_base (codes "blob\ndata 1\na\ndone\nblob\n") ≡ 19
unfolding put remove any_line line_at block_at option_line need_line first_word number mark target data_behind blob_data message_data last_path first_path two_paths path_of unquote is_ref_name is_ident mode dataref modify_line modify change_line change mark_lines blob people ref_line parents head reset command_line turn read_command waited_from decode_pairs
read_to_done = refl

-- to the line that fits no place
pub read_to_a_fault : waited empty_base (codes "blob\ndata 1\na\nwhat\nblob\n") ≡ 14
unfolding put remove any_line line_at block_at option_line need_line first_word number mark target data_behind blob_data message_data last_path first_path two_paths path_of unquote is_ref_name is_ident mode dataref modify_line modify change_line change mark_lines blob people ref_line parents head reset command_line turn read_command waited_from decode_pairs
read_to_a_fault = refl

-- to the line behind the refused command that is no comment, an empty one here
pub read_behind_a_refusal : waited empty_base (refused ++ codes "# a comment\n\nblob\n") ≡ 88
unfolding put remove any_line line_at block_at option_line need_line first_word number mark target data_behind blob_data message_data last_path first_path two_paths path_of unquote is_ref_name is_ident mode dataref modify_line modify change_line change mark_lines blob people ref_line parents head reset command_line turn read_command waited_from decode_pairs
read_behind_a_refusal = refl

-- to the end, where only comments follow
pub refused_at_the_end : waited empty_base (codes "reset refs/heads/side\nfrom :1\n# end\n") ≡ 36
unfolding put remove any_line line_at block_at option_line need_line first_word number mark target data_behind blob_data message_data last_path first_path two_paths path_of unquote is_ref_name is_ident mode dataref modify_line modify change_line change mark_lines blob people ref_line parents head reset command_line turn read_command waited_from decode_pairs
refused_at_the_end = refl

-- ---- many kinds of lines

abbrev many_lines : Bytes
many_lines = codes "blob\nmark :1\noriginal-oid ce013625030ba8dba906f756967f9e9ca394464a\ndata 6\nhello\n\nreset refs/heads/main\ncommit refs/heads/main\nmark :2\nauthor A <a@x> 1700000000 +0000\ncommitter A <a@x> 1700000000 +0000\ndata 5\ninit\nM 100644 :1 README\nM 160000 3b18e512dba79e4c8300dd08aeb37f8e728b8dad sub\nM 100755 :1 \"\\303\\251.txt\"\n\nprogress one commit\ncommit refs/heads/main\nmark :3\nauthor A <a@x> 1700000001 +0000\ncommitter B <b@x> 1700000002 +0100\ndata 4\nnextfrom :2\ndeleteall\nM 120000 :1 README\n\nreset refs/heads/main\nfrom :3\n\n"

abbrev sub_name : Bytes
sub_name = 59 ∷ 24 ∷ 229 ∷ 18 ∷ 219 ∷ 167 ∷ 158 ∷ 76 ∷ 131 ∷ 0 ∷ 221 ∷ 8 ∷ 174 ∷ 179 ∷ 127 ∷ 142 ∷ 114 ∷ 139 ∷ 141 ∷ 173 ∷ []

abbrev first_of_many : Snapshot
first_of_many = record {
  tree = (codes "README" ∷ [], FileLeaf hello) ∷ (codes "sub" ∷ [], ModuleLeaf sub_name) ∷ ((195 ∷ 169 ∷ codes ".txt") ∷ [], ExecLeaf hello) ∷ [];
  parents = [];
  letter = letter (codes "init\n");
}

abbrev second_of_many : Snapshot
second_of_many = record {
  tree = (codes "README" ∷ [], LinkLeaf hello) ∷ [];
  parents = snapshot_name first_of_many ∷ [];
  letter = record { author = codes "A <a@x> 1700000001 +0000"; committer = codes "B <b@x> 1700000002 +0100"; message = codes "next" };
}

pub many_kinds_of_lines : replay empty_base many_lines
    ≡ Ok (record { blobs = hello ∷ []; commits = first_of_many ∷ second_of_many ∷ []; heads = (main, snapshot_name second_of_many) ∷ [] })
unfolding put remove any_line line_at block_at option_line need_line first_word number mark target data_behind blob_data message_data last_path first_path two_paths path_of unquote is_ref_name is_ident mode dataref modify_line modify change_line change mark_lines blob people ref_line parents head reset command_line turn read_command verdict_from decode_pairs commit_body commit_name encode_with body line name digits first_words schedule rounds compress hash_after digest_bytes sha1
many_kinds_of_lines = refl
