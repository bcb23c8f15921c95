-- Worked examples.
use Rattle.std.specs.Prelude.{◌≡◌, [], ◌∷◌, replicate, codes, Ok, Err, refl}
use Rattle.std.specs.Fmt.{digits}
use Rattle.hex.specs.Hex.{encode_with, decode_pairs}
use Rattle.sha1.specs.Sha1.{sha1, first_words, schedule, rounds, compress, hash_after, digest_bytes}
use Rattle.git_objects.specs.Commits.{commit_body, commit_name}
use Rattle.git_objects.specs.Idents.{is_ident}
use Rattle.git_objects.specs.Names.{body, line, name}
use Rattle.git_objects.specs.Paths.{Bytes, Path}
use Rattle.git_objects.specs.Snapshots.{Snapshot, snapshot_name}
use Rattle.git_objects.specs.Trees.{ExecLeaf, FileLeaf, Flat, ModuleLeaf, put, remove}
use Rattle.path_names.specs.PathTexts.{path_of}
use Rattle.path_names.specs.Quoting.{quote, quoted_byte, unquote}
use Rattle.path_names.specs.RefNames.{is_ref_name}
use Rattle.path_names.specs.Words.{number}
use Rattle.stream_lex.specs.Lines.{any_line, line_at, block_at}
use Rattle.stream_reader.specs.declared.fault.StreamFault.TheVariants.{Syntax}
use Rattle.stream_reader.specs.Words.{first_word, mark}
use Rattle.stream_reader.specs.Reading.{option_line, need_line}
use Rattle.stream_reader.specs.Names.{target}
use Rattle.stream_reader.specs.Blocks.{data_behind, blob_data, message_data}
use Rattle.stream_reader.specs.PathWords.{last_path}
use Rattle.stream_reader.specs.Changes.{mode, dataref, modify_line, modify, change_line, change}
use Rattle.stream_reader.specs.Heads.{mark_lines, blob, people, ref_line, parents, head, reset}
use Rattle.stream_reader.specs.Commands.{command_line, turn, read_command}
use Rattle.stream_reader.specs.Verdicts.{verdict_from}
use Rattle.fast_import.specs.Replays.{Base, replay}
use Rattle.fast_export.specs.ExportTexts.{no_marks}
use Rattle.incremental_export.specs.Changes.{changed, deleted, with_all, without_all}
use Rattle.incremental_export.specs.ChangeTexts.{changes_text, commit_text}

abbrev path : Bytes → Path
path c = c ∷ []

-- a directory `d` with two files, and a file `f`
abbrev old : Flat
old =
    (codes "d" ∷ codes "x" ∷ [], FileLeaf (codes "1")) ∷ (codes "d" ∷ codes "y" ∷ [], FileLeaf (codes "2"))
    ∷ (path (codes "f"), FileLeaf (codes "3")) ∷ (path (codes "g"), FileLeaf (codes "4")) ∷ []

-- `d` is a file now, `f` a directory, and `g` as it was
abbrev now : Flat
now = (path (codes "d"), FileLeaf (codes "1")) ∷ (codes "f" ∷ codes "z" ∷ [], FileLeaf (codes "3")) ∷ (path (codes "g"), FileLeaf (codes "4")) ∷ []

-- paths that are gone, of leaves that a new one stands upon or below too
gone : deleted old now ≡ (codes "d" ∷ codes "x" ∷ []) ∷ (codes "d" ∷ codes "y" ∷ []) ∷ path (codes "f") ∷ []
gone = refl

new : changed old now ≡ (path (codes "d"), FileLeaf (codes "1")) ∷ (codes "f" ∷ codes "z" ∷ [], FileLeaf (codes "3")) ∷ []
new = refl

turned : with_all (changed old now) (without_all (deleted old now) old) ≡ now
unfolding put remove
turned = refl

-- a mode alone is a change, and a module's commit is one
modes : changed ((path (codes "a"), FileLeaf (codes "1")) ∷ (path (codes "m"), ModuleLeaf (replicate 20 1)) ∷ [])
    ((path (codes "a"), ExecLeaf (codes "1")) ∷ (path (codes "m"), ModuleLeaf (replicate 20 2)) ∷ [])
    ≡ (path (codes "a"), ExecLeaf (codes "1")) ∷ (path (codes "m"), ModuleLeaf (replicate 20 2)) ∷ []
modes = refl

-- ---- texts

abbrev main : Bytes
main = codes "refs/heads/main"

abbrev person : Bytes
person = codes "A <a@x> 1700000000 +0000"

-- two commits that are there have these names and trees
abbrev there : Bytes
there = replicate 20 171

abbrev other : Bytes
other = replicate 20 205

abbrev tree_of : Bytes → Flat
tree_of n = old

nothing : changes_text tree_of [] main ≡ []
unfolding changes_text
nothing = refl

-- A merge of them: its parents by their digits, what the first one's tree doesn't have any more, a blob, and what is put.
abbrev merge : Snapshot
merge = record {
  tree = (path (codes "f"), FileLeaf (codes "5")) ∷ (path (codes "g"), FileLeaf (codes "4")) ∷ [];
  parents = there ∷ other ∷ [];
  letter = record { author = person; committer = person; message = codes "m\n" };
}

one : changes_text tree_of (merge ∷ []) main
    ≡ codes "blob\nmark :1\ndata 1\n5\ncommit refs/heads/main\nmark :2\nauthor A <a@x> 1700000000 +0000\ncommitter A <a@x> 1700000000 +0000\ndata 2\nm\n\nfrom abababababababababababababababababababab\nmerge cdcdcdcdcdcdcdcdcdcdcdcdcdcdcdcdcdcdcdcd\nD d/x\nD d/y\nM 100644 :1 f\n\nreset refs/heads/main\nfrom :2\n\n"
unfolding changes_text quote quoted_byte digits encode_with
one = refl

-- A commit that changes nothing has no lines of changes; a parent with a mark is named by it; one without a parent begins anew.
same : commit_text tree_of main (record { next = 9; blobs = []; commits = (4, there) ∷ [] }) (record merge { tree = old; parents = there ∷ [] })
    ≡ codes "commit refs/heads/main\nmark :9\nauthor A <a@x> 1700000000 +0000\ncommitter A <a@x> 1700000000 +0000\ndata 2\nm\n\nfrom :4\n\n"
unfolding quote quoted_byte digits encode_with
same = refl

root : commit_text tree_of main no_marks (record merge { tree = []; parents = [] })
    ≡ codes "reset refs/heads/main\ncommit refs/heads/main\nmark :1\nauthor A <a@x> 1700000000 +0000\ncommitter A <a@x> 1700000000 +0000\ndata 2\nm\n\n\n"
unfolding quote quoted_byte digits encode_with
root = refl

-- ---- read again

-- the two commits are there
abbrev before : Base
before = record { commits = (there, old) ∷ (other, old) ∷ []; refs = []; blobs = [] }

again : replay before (changes_text tree_of (merge ∷ []) main) ≡ Ok (record { blobs = codes "5" ∷ []; commits = merge ∷ []; heads = (main, snapshot_name merge) ∷ [] })
unfolding changes_text quote quoted_byte digits encode_with put remove any_line line_at block_at option_line need_line first_word number mark target data_behind blob_data message_data last_path path_of unquote is_ref_name is_ident mode dataref modify_line modify change_line change mark_lines blob people ref_line parents head reset command_line turn read_command verdict_from decode_pairs commit_body commit_name body line name first_words schedule rounds compress hash_after digest_bytes sha1
again = refl

-- A parent that isn't a name can't be read, though a base has it.
unnamed : replay (record before { commits = ([], []) ∷ [] }) (changes_text tree_of (record merge { tree = old; parents = [] ∷ [] } ∷ []) main) ≡ Err (Syntax 108)
unfolding changes_text quote quoted_byte digits encode_with any_line line_at block_at option_line need_line first_word number mark target data_behind message_data is_ref_name is_ident mark_lines people ref_line parents head command_line turn read_command verdict_from decode_pairs
unnamed = refl
