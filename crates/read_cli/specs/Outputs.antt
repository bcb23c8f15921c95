-- What a reading gives for what is held.
use Rattle.std.specs.Prelude.{ℕ, Bool, true, false, List, [], ◌∷◌, ◌++◌, codes, decimal, filter, flat_map, length, map, reverse, Option, Some, None, Result, Ok, Err}
use Rattle.std.specs.Option.{option_and_then, option_to_list}
use Rattle.std.specs.Result.{result_ok}
use Rattle.git_objects.specs.Commits.{hex}
use Rattle.git_objects.specs.Paths.{Bytes, Path, text}
use Rattle.git_objects.specs.Results.{◌>>=◌}
use Rattle.git_objects.specs.Snapshots.{Graph, Snapshot, ancestors, snapshot_name, tree_at}
use Rattle.git_objects.specs.Trees.{Flat, at}
use Rattle.object_store.specs.Sizes.{held_number}
use Rattle.path_names.specs.Quoting.{quote}
use Rattle.filter_text.specs.Filters.{Filter}
use Rattle.workspace.specs.Giving.{leaf_gives}
use Rattle.workspace.specs.Workspaces.{Split, place, shown, split}
use Rattle.workspace.specs.declared.giving.LeafGives.{LeafGives}
use Rattle.workspace.specs.declared.giving.LeafGives.TheVariants as gives
use Rattle.projection_laws.specs.Projections.{history_graph}
use Rattle.state_items.specs.Items.{Held}
use Rattle.state_items.specs.Repos.{repo}
use Rattle.tag_objects.specs.Tags.{tags_text}
use Rattle.tag_objects.specs.declared.tag.Tag.{Tag}
use Rattle.fast_export.specs.ExportTexts.{is_among}
use Rattle.incremental_export.specs.ChangeTexts.{changes_text}
use Rattle.incremental_export.specs.Unreached.{unreached}
use Rattle.proj_words.specs.Faults.{route_outcome}
use Rattle.proj_words.specs.Outcomes.{text_of}
use Rattle.proj_words.specs.declared.outcome.Outcome.{Outcome}
use Rattle.proj_words.specs.declared.outcome.Outcome.TheVariants.{Usage}
use Rattle.proj_commands.specs.Cases.{head_of}
use Rattle.proj_commands.specs.Export.{export_hand, tags_beside}
use Rattle.proj_commands.specs.Filters.{rule_by, sound}
use Rattle.proj_commands.specs.Hands.{Hand, seen_hand, still_hand}
use Rattle.proj_commands.specs.Lines.{ref_line, tag_line}
use Rattle.proj_commands.specs.Tags.{shown_before, shown_tags}
use Rattle.read_cli.specs.declared.words.Beside.{Beside}
use Rattle.read_cli.specs.declared.words.Beside.TheVariants.{Names, Nothing, Tags}
use Rattle.read_cli.specs.Readings.{Reading, Refs, Log, Check, New, Originals, Unknown}

-- ---- refs

-- the line of each ref, in byte order
abbrev pub refs_output : Held → Bytes
refs_output h = flat_map ref_line h.refs

-- ---- a log

-- the digits of a name, or `none`
abbrev pub name_or_none : Option Bytes → Bytes
name_or_none None = codes "none"
name_or_none (Some n) = hex n

-- the digits of a commit, a space, and those of its projection
abbrev pub name_line : Bytes → Option Bytes → Bytes
name_line m o = hex m ++ 32 ∷ (name_or_none o ++ 10 ∷ [])

abbrev pub log_line : Held → Filter → Bytes → Bytes → Bytes
log_line h f n m = name_line m (shown_before h f n m)

-- of a commit and its ancestors, parents first
abbrev pub log_output : Held → Filter → Bytes → Bytes
log_output h f n = flat_map (log_line h f n) (map snapshot_name (reverse (ancestors (repo h).commits n)))

-- ---- what is checked

-- what the leaf at the workspace place gives, or why it gives no items
abbrev pub gives_text : LeafGives → Bytes
gives_text gives.Absent = codes "absent\n"
gives_text gives.NoFile = codes "no file\n"
gives_text gives.Unreadable = codes "syntax\n"
gives_text (gives.Unsound fault) = text_of (route_outcome fault)
gives_text (gives.Items n) = codes "items " ++ decimal n ++ 10 ∷ []

-- The line of a workspace: the path of its file and what stands there, or `none` where the pieces before it show none
-- of the paths as its file.
abbrev pub place_line : LeafGives → Option Path → Bytes
place_line given None = codes "workspace none\n"
place_line given (Some p) = codes "workspace " ++ quote (text p) ++ 32 ∷ gives_text given

-- without a workspace there is no line
abbrev pub workspace_line : Filter → Flat → Option Split → Bytes
workspace_line f t None = []
workspace_line f t (Some s) = place_line (leaf_gives s.directory (option_and_then (at t) (place f))) (place f)

-- how many files are shown
abbrev pub files_line : ℕ → Bytes
files_line n = codes "files " ++ decimal n ++ 10 ∷ []

-- of a tree
abbrev pub check_text : Filter → Flat → Bytes
check_text f t = files_line (held_number (length (shown f t))) ++ workspace_line f t (split f)

abbrev pub check_output : Held → Filter → Bytes → Bytes
check_output h f n = check_text f (tree_at (repo h).commits n)

-- ---- what is new

-- the projected history of a commit, the newest first
abbrev pub projected_graph : Held → Filter → Bytes → Graph
projected_graph h f n = history_graph (rule_by h.rule) (shown f) (repo h).commits n

-- its commits without those that are there and their ancestors, parents first
abbrev pub new_commits : Held → Filter → Bytes → List Bytes → List Snapshot
new_commits h f n haves = reverse (unreached (projected_graph h f n) haves)

-- the tags of these commits
abbrev pub new_tags : Bool → Held → Filter → Bytes → List Bytes → List Tag
new_tags tagged h f n haves = filter (λ t. is_among t.target.0 (map snapshot_name (new_commits h f n haves))) (tags_beside tagged h f n)

-- whether they stand behind the commits
abbrev pub has_tags : Beside → Bool
has_tags Nothing = false
has_tags Tags = true
has_tags Names = true

-- What stands in front where names are asked for: the line of the commit, as in a log, a line for each annotated tag that is shown, with
-- its name and that of its object, and an empty line.
abbrev pub names_text : Beside → Held → Filter → Bytes → Bytes
names_text Nothing h f n = []
names_text Tags h f n = []
names_text Names h f n = log_line h f n n ++ (flat_map tag_line (shown_tags h f n) ++ 10 ∷ [])

abbrev pub new_output : Beside → Held → Filter → Bytes → Bytes → List Bytes → Bytes
new_output beside h f refname n haves =
    names_text beside h f n
    ++ (changes_text (tree_at (projected_graph h f n)) (new_commits h f n haves) refname ++ tags_text (new_tags (has_tags beside) h f n haves))

-- ---- originals

-- a commit and its ancestors without those that are there and their ancestors, parents first
abbrev pub original_commits : Held → Bytes → List Bytes → List Snapshot
original_commits h n haves = reverse (unreached (ancestors (repo h).commits n) haves)

abbrev pub originals_output : Held → Bytes → Bytes → List Bytes → Bytes
originals_output h refname n haves = changes_text (tree_at (repo h).commits) (original_commits h n haves) refname

-- ---- by what is loaded

-- what is written, or the first refusal: of the words, of the filter, of loading, and of the ref
abbrev pub output : Reading → Result Held Outcome → Result Bytes Outcome
output Refs loading = loading >>= λ h. Ok (refs_output h)
output (Log r text) loading = sound text >>= λ f. loading >>= λ h. head_of r h.refs >>= λ n. Ok (log_output h f n)
output (Check r text) loading = sound text >>= λ f. loading >>= λ h. head_of r h.refs >>= λ n. Ok (check_output h f n)
output (New beside r text haves) loading =
    sound text >>= λ f. loading >>= λ h. head_of r h.refs >>= λ n. Ok (new_output beside h f r n haves)
output (Originals r haves) loading = loading >>= λ h. head_of r h.refs >>= λ n. Ok (originals_output h r n haves)
output Unknown loading = Err Usage

-- what is brought together for it
abbrev pub hand : Reading → Result Held Outcome → Result Hand Outcome
hand Refs loading = loading >>= λ h. Ok (still_hand h.objects [] [])
hand (Log r text) loading = sound text >>= λ f. loading >>= λ h. head_of r h.refs >>= λ n. Ok (seen_hand h f n)
hand (Check r text) loading = sound text >>= λ f. loading >>= λ h. head_of r h.refs >>= λ n. Ok (seen_hand h f n)
hand (New beside r text haves) loading =
    sound text >>= λ f. loading >>= λ h. head_of r h.refs >>= λ n. Ok (export_hand (has_tags beside) h f n)
hand (Originals r haves) loading = loading >>= λ h. Ok (still_hand h.objects [] [])
hand Unknown loading = Err Usage

abbrev pub hands : Reading → Result Held Outcome → List Hand
hands asked loading = option_to_list (result_ok (hand asked loading))
