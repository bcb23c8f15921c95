-- Worked examples of whole pushes, from the stream to the originals.
use Rattle.std.specs.Prelude.{◌≡◌, refl, List, [], ◌∷◌, ◌++◌, map, codes, Option, Some, None}
use Rattle.std.specs.Option.{option_map}
use Rattle.std.specs.List.{last_or}
use Rattle.hex.specs.Hex.{decode_pairs}
use Rattle.git_objects.specs.Paths.{Bytes, Path}
use Rattle.git_objects.specs.Trees.{Flat, put, remove}
use Rattle.git_objects.specs.Idents.{is_ident}
use Rattle.git_objects.specs.Commits.{hex}
use Rattle.git_objects.specs.CommitBodies.{digits_name}
use Rattle.git_objects.specs.Snapshots.{Snapshot, Graph, snapshot_name}
use Rattle.path_names.specs.RefNames.{is_ref_name}
use Rattle.path_names.specs.Words.{number}
use Rattle.stream_lex.specs.Lines.{any_line, line_at, block_at}
use Rattle.stream_reader.specs.Words.{first_word, mark}
use Rattle.stream_reader.specs.Reading.{option_line, need_line}
use Rattle.stream_reader.specs.Names.{target}
use Rattle.stream_reader.specs.Blocks.{data_behind, blob_data, message_data}
use Rattle.stream_reader.specs.PathWords.{last_path, first_path, two_paths}
use Rattle.stream_reader.specs.Changes.{mode, dataref, modify_line, modify, change_line, change}
use Rattle.stream_reader.specs.Heads.{mark_lines, blob, people, ref_line, parents, head, reset}
use Rattle.stream_reader.specs.Commands.{command_line, turn, read_command}
use Rattle.stream_reader.specs.Verdicts.{verdict_from}
use Rattle.filter_text.specs.Filters.{Filter, sub, onto}
use Rattle.commit_map.specs.declared.rule.Rule.TheVariants.{One}
use Rattle.push_laws.specs.PushVerdicts.{NoChange, NotHeld}
use Rattle.push_laws.specs.PushReplays.{OtherRef, NotAtHead, FurtherParents}
use Rattle.push_laws.specs.Pushes.{Pushing, PushRefusal, StreamRefused, CommitRefused, pushing}
use Rattle.push_laws.specs.Examples.{a, b, f, g, k, hello, one, first, beside, reading, showing, naming}

-- what a theorem about streams unfolds, so that it computes
unfoldable pub replaying : Option Path
unfolding put remove any_line line_at block_at option_line need_line first_word number mark target data_behind blob_data
    message_data last_path first_path two_paths is_ref_name is_ident mode dataref modify_line modify change_line change
    mark_lines blob people ref_line parents head reset command_line turn read_command verdict_from decode_pairs
replaying = None

abbrev main : Bytes
main = codes "refs/heads/main"

-- the push of a stream to main, which is at the only commit of a graph of one
abbrev push_one : Filter → Graph → Bytes → Pushing
push_one s [] input = pushing One s [] [] main input
push_one s (c ∷ older) input = pushing One s (c ∷ older) (snapshot_name c) main input

-- the digits of the pushed commits, and those of their originals
abbrev names : Pushing → List Bytes × List Bytes
names p = (map (λ c. hex (snapshot_name c)) p.stream.state.commits, map (λ c. hex (snapshot_name c)) p.originals)

abbrev trees : Pushing → List Flat
trees p = map (λ c. c.tree) p.originals

abbrev tree_and_parents : Snapshot → Flat × List Bytes
tree_and_parents c = (c.tree, c.parents)

-- the trees of the originals, and the refusal
abbrev told : Pushing → List Flat × Option PushRefusal
told p = (trees p, p.refusal)

-- the first lines of a commit
abbrev commit_lines : Bytes → Bytes
commit_lines refname = codes "commit " ++ refname ++ codes "\ncommitter A <a@x> 1700000001 +0000\ndata 3\np1\n"

abbrev upon_first : Bytes
upon_first = codes "from 6a27ff6de5d45a65cc66723c6ae6227ea6004aa6\n"

-- ---- two commits through `:/a`

-- one writes g, and the next one, upon it, removes f
abbrev two_commits : Bytes
two_commits =
    commit_lines main ++ upon_first ++ codes "M 100644 inline g\ndata 2\n1\n\n"
    ++ codes "commit refs/heads/main\ncommitter A <a@x> 1700000002 +0000\ndata 3\np2\nD f\n"

pub two_originals : names (push_one (sub (a ∷ [])) beside two_commits) ≡ (
  codes "21c8dcd98bd914d4a202c87b6f55917c9606761b" ∷ codes "603e327e45d6237f0ea929264b187f78ba56c8de" ∷ [],
  codes "ef035742e8efa619a31f71f4f95d2397e1479642" ∷ codes "4e68c535c067753715bf12b4b89df544b63c1362" ∷ [],
)
unfolding replaying reading showing naming
two_originals = refl

pub their_trees : trees (push_one (sub (a ∷ [])) beside two_commits)
    ≡ ((a ∷ f ∷ [], hello) ∷ (a ∷ g ∷ [], one) ∷ (b ∷ k ∷ [], hello) ∷ []) ∷ ((a ∷ g ∷ [], one) ∷ (b ∷ k ∷ [], hello) ∷ []) ∷ []
unfolding replaying reading showing naming
their_trees = refl

pub not_refused : (push_one (sub (a ∷ [])) beside two_commits).refusal ≡ None
unfolding replaying reading showing naming
not_refused = refl

-- ---- from nothing, through `:/new`

abbrev new_file : Bytes
new_file = commit_lines main ++ codes "M 100644 inline f\ndata 6\nhello\n"

pub from_nothing : map tree_and_parents (push_one (sub (codes "new" ∷ [])) (first ∷ []) new_file).originals
    ≡ ((a ∷ f ∷ [], hello) ∷ (codes "new" ∷ f ∷ [], hello) ∷ [], snapshot_name first ∷ []) ∷ []
unfolding replaying reading showing naming
from_nothing = refl

-- ---- refusals of the stream

-- the same commit again, upon nothing where there is a projection
pub not_at_the_head : (push_one (sub (a ∷ [])) (first ∷ []) new_file).refusal
    ≡ Some (StreamRefused (NotAtHead (digits_name (codes "6a27ff6de5d45a65cc66723c6ae6227ea6004aa6")) None))
unfolding replaying reading showing naming
not_at_the_head = refl

-- digits needn't be known to be another name than the head
pub another_name : (push_one (sub (codes "new" ∷ [])) (first ∷ []) (commit_lines main ++ upon_first)).refusal
    ≡ Some (StreamRefused (NotAtHead None (digits_name (codes "6a27ff6de5d45a65cc66723c6ae6227ea6004aa6"))))
unfolding replaying reading showing naming
another_name = refl

pub other_ref : (push_one (sub (a ∷ [])) (first ∷ []) (commit_lines (codes "refs/heads/side") ++ upon_first)).refusal ≡ Some (StreamRefused (OtherRef 0))
unfolding replaying reading showing naming
other_ref = refl

pub a_merge : (push_one (sub (a ∷ [])) (first ∷ [])
    (commit_lines main ++ upon_first ++ codes "merge 6a27ff6de5d45a65cc66723c6ae6227ea6004aa6\n")).refusal ≡ Some (StreamRefused (FurtherParents 1))
unfolding replaying reading showing naming
a_merge = refl

-- the ref is unset behind its commit
pub not_at_the_end : (push_one (sub (codes "new" ∷ [])) (first ∷ []) (new_file ++ codes "\nreset refs/heads/main\n")).refusal
    ≡ Some (StreamRefused (NotAtHead (option_map snapshot_name (last_or None (push_one (sub (codes "new" ∷ [])) (first ∷ []) new_file).stream.state.commits)) None))
unfolding replaying reading showing naming
not_at_the_end = refl

pub an_empty_push : told (push_one (sub (a ∷ [])) (first ∷ []) []) ≡ ([], None)
unfolding replaying reading showing naming
an_empty_push = refl

-- ---- refusals of a commit

pub no_change : (push_one (sub (a ∷ [])) (first ∷ []) (commit_lines main ++ upon_first)).refusal ≡ Some (CommitRefused 1 NoChange)
unfolding replaying reading showing naming
no_change = refl

-- the second commit is refused: the originals before it were made
pub the_second_is_refused : told (push_one (sub (a ∷ [])) (first ∷ []) (commit_lines main ++ upon_first ++ codes "D f\n\n" ++ commit_lines main))
    ≡ ([] ∷ [], Some (CommitRefused 2 NoChange))
unfolding replaying reading showing naming
the_second_is_refused = refl

-- `:prefix=lib` shows nothing beside lib
pub outside : (push_one (onto (codes "lib" ∷ [])) (first ∷ []) (commit_lines main ++ codes "from refs/heads/main\nM 100644 inline readme\ndata 2\n1\n")).refusal
    ≡ Some (CommitRefused 1 (NotHeld (codes "readme" ∷ [])))
unfolding replaying reading showing naming
outside = refl
