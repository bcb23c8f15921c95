-- Worked examples of whole pushes with merges, from the stream to the originals.
use Rattle.std.specs.Prelude.{◌≡◌, refl, List, [], ◌∷◌, ◌++◌, map, codes, Some, None}
use Rattle.git_objects.specs.Commits.{hex}
use Rattle.git_objects.specs.Paths.{Bytes}
use Rattle.git_objects.specs.Snapshots.{Snapshot, snapshot_name}
use Rattle.git_objects.specs.Trees.{Flat}
use Rattle.stream_reader.specs.declared.fault.StreamFault.TheVariants.{Unresolved}
use Rattle.commit_map.specs.declared.rule.Rule.{Rule}
use Rattle.commit_map.specs.declared.rule.Rule.TheVariants.{One, Two}
use Rattle.push_laws.specs.Examples.{naming, showing, reading, first, a, f, g, hello, one}
use Rattle.push_laws.specs.StreamExamples.{replaying}
use Rattle.push_laws.specs.PushReplays.{Faulty, FurtherParents}
use Rattle.push_laws.specs.Pushes.{Pushing, StreamRefused, CommitRefused}
use Rattle.push_laws.specs.PushVerdicts.{NoChange}
use Rattle.merge_laws.specs.Examples.{side, both, view, shown_as}
use Rattle.merge_laws.specs.Merges.{merging}

abbrev main : Bytes
main = codes "refs/heads/main"

-- upon the head's projection, with a commit of that name merged
abbrev merge_line : Bytes → Bytes
merge_line n =
    codes "commit refs/heads/main\ncommitter A <a@x> 1700000000 +0000\ndata 2\nm\nfrom " ++ hex (shown_as One first) ++ codes "\nmerge " ++ hex n
    ++ codes "\nM 100644 inline g\ndata 2\n1\n"

-- the push of such a commit to main, which is at the first of both
abbrev push_of : Rule → Bytes → Pushing
push_of k n = merging k view both (snapshot_name first) main (merge_line n)

abbrev tree_and_parents : Snapshot → Flat × List Bytes
tree_and_parents c = (c.tree, c.parents)

pub a_merge : map tree_and_parents (push_of One (shown_as One side)).originals
    ≡ (((a ∷ f ∷ [], hello) ∷ (a ∷ g ∷ [], one) ∷ []), snapshot_name first ∷ snapshot_name side ∷ []) ∷ []
unfolding replaying reading showing naming
a_merge = refl

pub accepted : (push_of One (shown_as One side)).refusal ≡ None
unfolding replaying reading showing naming
accepted = refl

-- by the second rule nothing would change
pub no_change : (push_of Two (shown_as One side)).refusal ≡ Some (CommitRefused 1 NoChange)
unfolding replaying reading showing naming
no_change = refl

-- the same parent twice
pub repeated : (push_of One (shown_as One first)).refusal ≡ Some (StreamRefused (FurtherParents 1))
unfolding replaying reading showing naming
repeated = refl

-- an original commit isn't there
pub not_there : (push_of One (snapshot_name first)).refusal ≡ Some (StreamRefused (Faulty (Unresolved 113)))
unfolding replaying reading showing naming
not_there = refl
