-- Worked examples of streams upon what is held.
use Rattle.std.specs.Prelude.{◌≡◌, refl, List, [], ◌∷◌, codes, length, map, take}
use Rattle.std.specs.Fmt.{digits}
use Rattle.hex.specs.Hex.{encode_with, decode_pairs}
use Rattle.sha1.specs.Sha1.{sha1, first_words, schedule, rounds, compress, hash_after, digest_bytes}
use Rattle.git_objects.specs.Bodies.{tree_entries}
use Rattle.git_objects.specs.CommitBodies.{commit_from}
use Rattle.git_objects.specs.Commits.{commit_body, commit_name}
use Rattle.git_objects.specs.Idents.{is_ident}
use Rattle.git_objects.specs.Names.{name, body, line}
use Rattle.git_objects.specs.Paths.{Bytes}
use Rattle.git_objects.specs.Snapshots.{Snapshot, snapshot_name}
use Rattle.git_objects.specs.Trees.{FileLeaf, put, remove}
use Rattle.git_objects.specs.declared.kind.Kind.TheVariants.{Tree}
use Rattle.path_names.specs.PathTexts.{path_of}
use Rattle.path_names.specs.Quoting.{unquote}
use Rattle.path_names.specs.RefNames.{is_ref_name}
use Rattle.path_names.specs.Words.{number}
use Rattle.object_store.specs.Objects.{Object, find_named, has, has_name, body_of}
use Rattle.object_store.specs.StoredSnapshots.{snapshot_object}
use Rattle.object_store.specs.TreeObjects.{tree_objects}
use Rattle.object_store.specs.Unfolding.{flat}
use Rattle.stream_lex.specs.Lines.{any_line, line_at, block_at}
use Rattle.stream_reader.specs.Words.{first_word, mark}
use Rattle.stream_reader.specs.Reading.{option_line, need_line}
use Rattle.stream_reader.specs.Names.{target}
use Rattle.stream_reader.specs.Blocks.{data_behind, blob_data, message_data}
use Rattle.stream_reader.specs.PathWords.{last_path, first_path, two_paths}
use Rattle.stream_reader.specs.Changes.{mode, dataref, modify_line, modify, change_line, change}
use Rattle.stream_reader.specs.Heads.{mark_lines, blob, people, ref_line, parents, head, reset}
use Rattle.stream_reader.specs.Commands.{command_line, turn, read_command}
use Rattle.stream_reader.specs.Verdicts.{verdict_from}
use Rattle.state_items.specs.Items.{Held, change_text, nothing}
use Rattle.state_items.specs.Changes.{ChangePlan, NoPlan, blob_object, fresh, held_after, plan_items}
use Rattle.import_laws.specs.SmallReplays.{given_upon, stream_plan}

abbrev ident : Bytes
ident = codes "A <a@x> 1700000000 +0000"

abbrev hello : Bytes
hello = codes "hello\n"

abbrev main : Bytes
main = codes "refs/heads/main"

-- a commit of the file `a/f`
abbrev small_stream : Bytes
small_stream =
    codes "commit refs/heads/main\ncommitter A <a@x> 1700000000 +0000\ndata 5\ninit\nM 100644 inline a/f\ndata 6\nhello\n"

abbrev small_commit : Snapshot
small_commit = record {
  tree = (codes "a" ∷ codes "f" ∷ [], FileLeaf hello) ∷ [];
  parents = [];
  letter = record { author = ident; committer = ident; message = codes "init\n" };
}

abbrev objects : List Object
objects =
    blob_object hello
    ∷ record { kind = Tree; body = body ((codes "f" ∷ [], FileLeaf hello) ∷ []) }
    ∷ record { kind = Tree; body = body small_commit.tree }
    ∷ snapshot_object small_commit ∷ []

-- what it adds to nothing, whose item has 249 bytes
pub a_small_stream : stream_plan nothing small_stream ≡ ChangePlan objects ((main, snapshot_name small_commit) ∷ [])
unfolding fresh has has_name find_named body_of flat tree_entries commit_from tree_objects change_text put remove any_line line_at block_at option_line need_line first_word number mark target data_behind blob_data message_data last_path first_path two_paths path_of unquote is_ref_name is_ident mode dataref modify_line modify change_line change mark_lines blob people ref_line parents head reset command_line turn read_command verdict_from decode_pairs commit_body commit_name encode_with body line name digits first_words schedule rounds compress hash_after digest_bytes sha1
a_small_stream = refl

pub its_item : map length (plan_items (stream_plan nothing small_stream)) ≡ 249 ∷ []
unfolding fresh has has_name find_named body_of flat tree_entries commit_from tree_objects change_text put remove any_line line_at block_at option_line need_line first_word number mark target data_behind blob_data message_data last_path first_path two_paths path_of unquote is_ref_name is_ident mode dataref modify_line modify change_line change mark_lines blob people ref_line parents head reset command_line turn read_command verdict_from decode_pairs commit_body commit_name encode_with body line name digits first_words schedule rounds compress hash_after digest_bytes sha1
its_item = refl

-- the same stream again adds nothing
abbrev held : Held
held = held_after nothing (ChangePlan objects ((main, snapshot_name small_commit) ∷ []))

pub the_stream_again : stream_plan held small_stream ≡ NoPlan
unfolding fresh has has_name find_named body_of flat tree_entries commit_from tree_objects change_text put remove any_line line_at block_at option_line need_line first_word number mark target data_behind blob_data message_data last_path first_path two_paths path_of unquote is_ref_name is_ident mode dataref modify_line modify change_line change mark_lines blob people ref_line parents head reset command_line turn read_command verdict_from decode_pairs commit_body commit_name encode_with body line name digits first_words schedule rounds compress hash_after digest_bytes sha1
the_stream_again = refl

-- of a stream that is cut in the data of its change, what came before it is given; its commit hasn't ended
pub a_cut_stream : (given_upon nothing (take 100 small_stream)).commits ≡ []
unfolding put remove any_line line_at block_at option_line need_line first_word number mark target data_behind blob_data message_data last_path first_path two_paths path_of unquote is_ref_name is_ident mode dataref modify_line modify change_line change mark_lines blob people ref_line parents head reset command_line turn read_command verdict_from decode_pairs
a_cut_stream = refl

-- before the change, the end of the stream ends the commit
pub cut_before_the_change : map (λ c. length c.tree) (given_upon nothing (take 70 small_stream)).commits ≡ 0 ∷ []
unfolding put remove any_line line_at block_at option_line need_line first_word number mark target data_behind blob_data message_data last_path first_path two_paths path_of unquote is_ref_name is_ident mode dataref modify_line modify change_line change mark_lines blob people ref_line parents head reset command_line turn read_command verdict_from decode_pairs
cut_before_the_change = refl
