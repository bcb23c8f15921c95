-- Worked examples of streams with tags.
use Rattle.std.specs.Prelude.{◌≡◌, refl, [], ◌∷◌, ◌++◌, codes, Ok, Err}
use Rattle.std.specs.Fmt.{digits}
use Rattle.hex.specs.Hex.{decode_pairs, encode_with}
use Rattle.sha1.specs.Sha1.{sha1, first_words, schedule, rounds, compress, hash_after, digest_bytes}
use Rattle.git_objects.specs.Commits.{commit_body, commit_name}
use Rattle.git_objects.specs.Idents.{is_ident}
use Rattle.git_objects.specs.Names.{body, line, name}
use Rattle.git_objects.specs.Paths.{Bytes}
use Rattle.git_objects.specs.Snapshots.{Snapshot, snapshot_name}
use Rattle.git_objects.specs.Trees.{FileLeaf, put, remove}
use Rattle.path_names.specs.PathTexts.{path_of}
use Rattle.path_names.specs.Quoting.{unquote}
use Rattle.path_names.specs.RefNames.{is_ref_name}
use Rattle.path_names.specs.Words.{number}
use Rattle.stream_lex.specs.Lines.{any_line, block_at, line_at}
use Rattle.stream_reader.specs.Blocks.{blob_data, data_behind, message_data, tag_data}
use Rattle.stream_reader.specs.Changes.{change, change_line, dataref, mode, modify, modify_line}
use Rattle.stream_reader.specs.Commands.{command_line, read_command, turn}
use Rattle.stream_reader.specs.Heads.{blob, head, mark_lines, parents, people, ref_line, reset, tag}
use Rattle.stream_reader.specs.Names.{target}
use Rattle.stream_reader.specs.PathWords.{first_path, last_path, two_paths}
use Rattle.stream_reader.specs.Reading.{need_line, option_line}
use Rattle.stream_reader.specs.Verdicts.{verdict_from}
use Rattle.stream_reader.specs.Words.{first_word, mark}
use Rattle.stream_reader.specs.declared.fault.Feature.TheVariants as features
use Rattle.stream_reader.specs.declared.fault.StreamFault.TheVariants.{Unresolved, Unsupported}
use Rattle.tag_objects.specs.declared.tag.Tag.{Tag}
use Rattle.fast_import.specs.Replays.{empty_base, replay, tagged_replay}

abbrev main : Bytes
main = codes "refs/heads/main"

abbrev person : Bytes
person = codes "A <a@x> 1700000000 +0000"

abbrev hello : Bytes
hello = codes "hello\n"

-- a commit of the file `a/f`
abbrev s1 : Bytes
s1 = codes "commit refs/heads/main\ncommitter A <a@x> 1700000000 +0000\ndata 5\ninit\nM 100644 inline a/f\ndata 6\nhello\n"

abbrev first : Snapshot
first = record {
  tree = (codes "a" ∷ codes "f" ∷ [], FileLeaf hello) ∷ [];
  parents = [];
  letter = record { author = person; committer = person; message = codes "init\n" };
}

-- a tag of the ref's commit with that message of 3 bytes
abbrev tag_lines : Bytes → Bytes
tag_lines message = codes "tag v1\nfrom refs/heads/main\ntagger A <a@x> 1700000000 +0000\ndata 3\n" ++ message

abbrev tag_of_it : Bytes → Bytes → Tag
tag_of_it name message = record { name = name; target = record { 0 = snapshot_name first }; tagger = person; message = message }

abbrev v1_of : Bytes → Tag
v1_of message = tag_of_it (codes "v1") message

-- a commit, and a tag of its branch
pub a_tagged_commit : tagged_replay empty_base (s1 ++ tag_lines (codes "v1\n")) ≡ Ok (record {
  replayed = record { blobs = hello ∷ []; commits = first ∷ []; heads = (main, snapshot_name first) ∷ [] };
  tags = v1_of (codes "v1\n") ∷ [];
})
unfolding verdict_from read_command tag tag_data put remove any_line line_at block_at option_line need_line first_word number mark target data_behind blob_data message_data last_path first_path two_paths path_of unquote is_ref_name is_ident mode dataref modify_line modify change_line change mark_lines blob people ref_line parents head reset command_line turn decode_pairs commit_body commit_name encode_with body line name digits first_words schedule rounds compress hash_after digest_bytes sha1
a_tagged_commit = refl

-- no ref is there that the line `from` could name
pub a_tag_of_nothing : tagged_replay empty_base (tag_lines (codes "v1\n")) ≡ Err (Unresolved 7)
unfolding verdict_from read_command tag tag_data any_line line_at block_at option_line need_line first_word number mark target data_behind is_ref_name is_ident command_line turn decode_pairs
a_tag_of_nothing = refl

-- a tag's mark takes away a blob's mark
pub a_mark_taken_away : tagged_replay empty_base (s1 ++ codes "\nblob\nmark :1\ndata 1\na\ntag v1\nmark :1\nfrom refs/heads/main\ntagger A <a@x> 1700000000 +0000\ndata 0\ncommit refs/heads/main\ncommitter A <a@x> 1700000000 +0000\ndata 0\nM 100644 :1 f\n")
    ≡ Err (Unresolved 266)
unfolding verdict_from read_command tag tag_data put remove any_line line_at block_at option_line need_line first_word number mark target data_behind blob_data message_data last_path first_path two_paths path_of unquote is_ref_name is_ident mode dataref modify_line modify change_line change mark_lines blob people ref_line parents head reset command_line turn decode_pairs commit_body commit_name encode_with body line name digits first_words schedule rounds compress hash_after digest_bytes sha1
a_mark_taken_away = refl

-- a tag's mark names no commit
pub a_tag_of_a_tag : tagged_replay empty_base (s1 ++ codes "tag v1\nmark :1\nfrom refs/heads/main\ntagger A <a@x> 1700000000 +0000\ndata 0\ntag v2\nfrom :1\ntagger A <a@x> 1700000000 +0000\ndata 0\n")
    ≡ Err (Unresolved 185)
unfolding verdict_from read_command tag tag_data put remove any_line line_at block_at option_line need_line first_word number mark target data_behind blob_data message_data last_path first_path two_paths path_of unquote is_ref_name is_ident mode dataref modify_line modify change_line change mark_lines blob people ref_line parents head reset command_line turn decode_pairs commit_body commit_name encode_with body line name digits first_words schedule rounds compress hash_after digest_bytes sha1
a_tag_of_a_tag = refl

-- a tag's mark takes away a commit's mark
pub a_commit_without_its_mark : tagged_replay empty_base (codes "commit refs/heads/main\nmark :1\ncommitter A <a@x> 1700000000 +0000\ndata 0\n\ntag v1\nmark :1\nfrom :1\ntagger A <a@x> 1700000000 +0000\ndata 0\nreset refs/heads/side\nfrom :1\n")
    ≡ Err (Unresolved 158)
unfolding verdict_from read_command tag tag_data put remove any_line line_at block_at option_line need_line first_word number mark target data_behind blob_data message_data last_path first_path two_paths path_of unquote is_ref_name is_ident mode dataref modify_line modify change_line change mark_lines blob people ref_line parents head reset command_line turn decode_pairs commit_body commit_name encode_with body line name digits first_words schedule rounds compress hash_after digest_bytes sha1
a_commit_without_its_mark = refl

-- in byte order, the last one of each name
pub of_each_name_the_last : tagged_replay empty_base (s1 ++ codes "tag v2\nfrom refs/heads/main\ntagger A <a@x> 1700000000 +0000\ndata 0\n" ++ tag_lines (codes "v1\n") ++ tag_lines (codes "v9\n"))
    ≡ Ok (record {
      replayed = record { blobs = hello ∷ []; commits = first ∷ []; heads = (main, snapshot_name first) ∷ [] };
      tags = v1_of (codes "v9\n") ∷ tag_of_it (codes "v2") [] ∷ [];
    })
unfolding verdict_from read_command tag tag_data put remove any_line line_at block_at option_line need_line first_word number mark target data_behind blob_data message_data last_path first_path two_paths path_of unquote is_ref_name is_ident mode dataref modify_line modify change_line change mark_lines blob people ref_line parents head reset command_line turn decode_pairs commit_body commit_name encode_with body line name digits first_words schedule rounds compress hash_after digest_bytes sha1
of_each_name_the_last = refl

-- a stream that is replayed without its tags refuses them at their place
pub a_tag_where_none_is_read : replay empty_base (s1 ++ tag_lines (codes "v1\n")) ≡ Err (Unsupported 103 features.Tag)
unfolding verdict_from read_command tag tag_data put remove any_line line_at block_at option_line need_line first_word number mark target data_behind blob_data message_data last_path first_path two_paths path_of unquote is_ref_name is_ident mode dataref modify_line modify change_line change mark_lines blob people ref_line parents head reset command_line turn decode_pairs commit_body commit_name encode_with body line name digits first_words schedule rounds compress hash_after digest_bytes sha1
a_tag_where_none_is_read = refl
