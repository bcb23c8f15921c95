-- Worked examples of projections and histories.
use Rattle.std.specs.Prelude.{◌≡◌, refl, get_or, List, [], ◌∷◌, ◌++◌, map, reverse, codes, Option, Some, None}
use Rattle.std.specs.List.{last_or}
use Rattle.std.specs.Fmt.{digits}
use Rattle.sha1.specs.Sha1.{sha1, first_words, schedule, rounds, compress, hash_after, digest_bytes}
use Rattle.hex.specs.Hex.{encode_with}
use Rattle.git_objects.specs.Paths.{Bytes, Path}
use Rattle.git_objects.specs.Trees.{Leaf, FileLeaf, Flat}
use Rattle.git_objects.specs.Names.{name, body, line}
use Rattle.git_objects.specs.Commits.{commit_body, commit_name}
use Rattle.git_objects.specs.Snapshots.{Snapshot, Graph, snapshot_name}
use Rattle.path_names.specs.PathTexts.{path_of}
use Rattle.path_names.specs.Quoting.{unquote}
use Rattle.filter_text.specs.Filters.{Filter, sub, workspace}
use Rattle.filter_text.specs.Texts.{name_at, kept_name_at, target_at}
use Rattle.filter_text.specs.Reading.{word_at, pieces_at, list_at}
use Rattle.filter_text.specs.Items.{items, members}
use Rattle.workspace.specs.Workspaces.{listed, next, resolve, shown, with_leaf}
use Rattle.commit_map.specs.Shown.{Shown}
use Rattle.commit_map.specs.declared.rule.Rule.{Rule}
use Rattle.commit_map.specs.declared.rule.Rule.TheVariants.{One, Two}
use Rattle.projection_laws.specs.Projections.{shown_of, projection, history, history_graph}

-- what a theorem about texts of files unfolds, so that it computes
unfoldable pub reading : Option Path
unfolding items members pieces_at list_at target_at name_at kept_name_at word_at path_of unquote
reading = None

-- the same of filters for trees
unfoldable pub showing : Option Path
unfolding listed with_leaf resolve shown next
showing = None

-- the same of names
unfoldable pub naming : Option Path
unfolding commit_name commit_body encode_with body line name digits first_words schedule rounds compress hash_after digest_bytes sha1
naming = None

-- ---- trees and commits

abbrev leaf : Bytes → Leaf
leaf text = FileLeaf text

abbrev one : Leaf
one = leaf (codes "1")

abbrev two : Leaf
two = leaf (codes "2")

abbrev a : Bytes
a = codes "a"

-- `a/f`, which `:/a` shows, and `b`, which it doesn't
abbrev tree : Leaf → Leaf → Flat
tree f b = (a ∷ codes "f" ∷ [], f) ∷ (codes "b" ∷ [], b) ∷ []

abbrev view : Filter
view = sub (a ∷ [])

abbrev ident : Bytes
ident = codes "A <a@x> 1 +0000"

-- a commit with this tree, upon these commits, with this message
abbrev commit : Flat → List Snapshot → Bytes → Snapshot
commit t parents m = record { tree = t; parents = map snapshot_name parents; letter = record { author = ident; committer = ident; message = m } }

-- the messages of the history of a graph's newest commit, the oldest first
abbrev messages : Rule → Filter → Graph → List Bytes
messages k f [] = []
messages k f (c ∷ older) = map (λ (d : Snapshot). d.letter.message) (reverse (history_graph k (shown f) (c ∷ older) (snapshot_name c)))

-- ---- commits of a line

abbrev root : Snapshot
root = commit (tree one one) [] (codes "root")

abbrev unseen : Snapshot
unseen = commit (tree one two) (root ∷ []) (codes "unseen")

abbrev seen : Snapshot
seen = commit (tree two two) (unseen ∷ []) (codes "seen")

abbrev hidden : Snapshot
hidden = commit ((codes "b" ∷ [], one) ∷ []) [] (codes "hidden")

-- ---- merges, and what they are of

abbrev right : Snapshot
right = commit (tree one one) (root ∷ []) (codes "right")

abbrev equals : Snapshot
equals = commit (tree one two) (unseen ∷ right ∷ []) (codes "equals")

abbrev grown : Snapshot
grown = commit (tree two one) (root ∷ []) (codes "grown")

abbrev merge : Snapshot
merge = commit (tree two one) (root ∷ grown ∷ []) (codes "merge")

abbrev other : Snapshot
other = commit (tree two one) [] (codes "other")

abbrev joined : Snapshot
joined = commit (tree two one) (root ∷ other ∷ []) (codes "joined")

-- ---- what becomes of them

-- The messages of six histories. They are found in one theorem, so that the name of a commit that several have is computed once.
histories :
    messages One view (seen ∷ unseen ∷ root ∷ [])
    ∷ messages One view (hidden ∷ [])
    ∷ messages One view (equals ∷ right ∷ unseen ∷ root ∷ [])
    ∷ messages One view (merge ∷ grown ∷ root ∷ [])
    ∷ messages Two view (merge ∷ grown ∷ root ∷ [])
    ∷ messages Two view (joined ∷ other ∷ root ∷ [])
    ∷ []
    ≡ (codes "root" ∷ codes "seen" ∷ [])
    ∷ []
    ∷ (codes "root" ∷ [])
    ∷ (codes "root" ∷ codes "grown" ∷ codes "merge" ∷ [])
    ∷ (codes "root" ∷ codes "grown" ∷ [])
    ∷ (codes "root" ∷ codes "other" ∷ codes "joined" ∷ [])
    ∷ []
unfolding showing naming
histories = refl

pub a_commit_that_changes_nothing_shown_is_dropped : messages One view (seen ∷ unseen ∷ root ∷ []) ≡ codes "root" ∷ codes "seen" ∷ []
a_commit_that_changes_nothing_shown_is_dropped = λ i. get_or (histories i) 0 []

pub a_root_of_which_nothing_is_shown_is_dropped : messages One view (hidden ∷ []) ≡ []
a_root_of_which_nothing_is_shown_is_dropped = λ i. get_or (histories i) 1 []

pub a_merge_of_equal_projections_is_dropped : messages One view (equals ∷ right ∷ unseen ∷ root ∷ []) ≡ codes "root" ∷ []
a_merge_of_equal_projections_is_dropped = λ i. get_or (histories i) 2 []

pub the_first_rule_keeps_a_merge_into_a_parent : messages One view (merge ∷ grown ∷ root ∷ []) ≡ codes "root" ∷ codes "grown" ∷ codes "merge" ∷ []
the_first_rule_keeps_a_merge_into_a_parent = λ i. get_or (histories i) 3 []

pub the_second_rule_drops_a_merge_into_a_parent : messages Two view (merge ∷ grown ∷ root ∷ []) ≡ codes "root" ∷ codes "grown" ∷ []
the_second_rule_drops_a_merge_into_a_parent = λ i. get_or (histories i) 4 []

-- neither root descends from the other
pub the_second_rule_keeps_a_merge_of_roots : messages Two view (joined ∷ other ∷ root ∷ []) ≡ codes "root" ∷ codes "other" ∷ codes "joined" ∷ []
the_second_rule_keeps_a_merge_of_roots = λ i. get_or (histories i) 5 []

-- ---- the last of a history

-- the same merge with its parents the other way round
abbrev swapped : Snapshot
swapped = commit (tree two one) (grown ∷ root ∷ []) (codes "merge")

-- what `grown` says, with another file that isn't shown
abbrev twin : Snapshot
twin = commit (tree two two) (root ∷ []) (codes "grown")

-- what `root` and `grown` become
abbrev root_shown : Snapshot
root_shown = commit ((codes "f" ∷ [], one) ∷ []) [] (codes "root")

abbrev grown_shown : Snapshot
grown_shown = commit ((codes "f" ∷ [], two) ∷ []) (root_shown ∷ []) (codes "grown")

-- the last of the history of a graph's newest commit, and the commit's projection
abbrev ends : Graph → List (Option Shown)
ends [] = []
ends (c ∷ older) =
    last_or None (history Two (shown view) (c ∷ older) (snapshot_name c))
    ∷ projection Two (shown view) (c ∷ older) (snapshot_name c)
    ∷ []

abbrev twice : Snapshot → List (Option Shown)
twice c = Some (shown_of c) ∷ Some (shown_of c) ∷ []

all_ends :
    ends (merge ∷ grown ∷ root ∷ [])
    ∷ ends (swapped ∷ grown ∷ root ∷ [])
    ∷ ends (right ∷ grown ∷ root ∷ [])
    ∷ ends (twin ∷ grown ∷ root ∷ [])
    ∷ ends (hidden ∷ root ∷ [])
    ∷ []
    ≡ twice grown_shown
    ∷ twice grown_shown
    ∷ twice root_shown
    ∷ twice grown_shown
    ∷ (None ∷ None ∷ [])
    ∷ []
unfolding showing naming
all_ends = refl

pub the_history_of_a_dropped_merge_ends_with_its_second_parents_projection : ends (merge ∷ grown ∷ root ∷ []) ≡ twice grown_shown
the_history_of_a_dropped_merge_ends_with_its_second_parents_projection = λ i. get_or (all_ends i) 0 []

pub the_history_of_a_dropped_merge_ends_with_its_first_parents_projection : ends (swapped ∷ grown ∷ root ∷ []) ≡ twice grown_shown
the_history_of_a_dropped_merge_ends_with_its_first_parents_projection = λ i. get_or (all_ends i) 1 []

-- `grown` is newer than the commit that `right` becomes, and isn't an ancestor of `right`
pub a_history_leaves_out_what_is_no_ancestor : ends (right ∷ grown ∷ root ∷ []) ≡ twice root_shown
a_history_leaves_out_what_is_no_ancestor = λ i. get_or (all_ends i) 2 []

-- `grown` is no ancestor of it
pub a_history_ends_with_what_another_commit_becomes_too : ends (twin ∷ grown ∷ root ∷ []) ≡ twice grown_shown
a_history_ends_with_what_another_commit_becomes_too = λ i. get_or (all_ends i) 3 []

pub a_history_without_commits_has_no_last : ends (hidden ∷ root ∷ []) ≡ None ∷ None ∷ []
a_history_without_commits_has_no_last = λ i. get_or (all_ends i) 4 []

-- ---- a workspace's file

abbrev ws : Bytes
ws = codes "ws"

abbrev space : Filter
space = workspace (ws ∷ [])

-- the directories `lib` and `tools`, and a workspace whose file has this line
abbrev with_line : Bytes → Leaf → Flat
with_line text tool =
    (codes "lib" ∷ codes "l" ∷ [], one)
    ∷ (codes "tools" ∷ codes "t" ∷ [], tool)
    ∷ (ws ∷ codes "workspace.josh" ∷ [], leaf (text ++ 10 ∷ []))
    ∷ []

abbrev lib : Bytes
lib = codes "deps = :/lib"

abbrev tools : Bytes
tools = codes "deps = :/tools"

abbrev start : Snapshot
start = commit (with_line lib one) [] (codes "start")

abbrev turned : Snapshot
turned = commit (with_line tools one) (start ∷ []) (codes "turned")

abbrev aside : Snapshot
aside = commit (with_line lib two) (start ∷ []) (codes "aside")

abbrev met : Snapshot
met = commit (with_line tools two) (turned ∷ aside ∷ []) (codes "met")

-- what changes on the other side isn't shown there, but by the merge's own file
pub a_file_that_changes_on_one_side : messages Two space (met ∷ aside ∷ turned ∷ start ∷ []) ≡ codes "start" ∷ codes "turned" ∷ codes "met" ∷ []
unfolding reading showing naming
a_file_that_changes_on_one_side = refl
