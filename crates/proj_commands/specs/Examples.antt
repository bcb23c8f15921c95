-- Worked examples of commands.
use Rattle.std.specs.Prelude.{◌≡◌, refl, false, true, List, [], ◌∷◌, ◌++◌, codes, length, map, Option, None, Some, Result, Ok, Err}
use Rattle.std.specs.Fmt.{digits}
use Rattle.std.specs.Str.{chars, is_utf8}
use lib.Utf8.{encode}
use Rattle.git_objects.specs.Paths.{Bytes, Path}
use Rattle.git_objects.specs.Trees.{FileLeaf}
use Rattle.git_objects.specs.Bodies.{tree_entries}
use Rattle.git_objects.specs.Commits.{hex}
use Rattle.git_objects.specs.CommitBodies.{commit_from, digits_name}
use Rattle.git_objects.specs.Results.{◌>>=◌}
use Rattle.git_objects.specs.Snapshots.{Snapshot, snapshot_name}
use Rattle.git_objects.specs.declared.quantity.Quantity.TheVariants as limits
use Rattle.path_names.specs.Quoting.{quote, quoted_byte}
use Rattle.path_names.specs.RefNames.{is_ref_name}
use Rattle.path_names.specs.Words.{number}
use Rattle.object_store.specs.Objects.{find_named, has, has_name, body_of}
use Rattle.object_store.specs.TreeObjects.{tree_objects}
use Rattle.object_store.specs.Unfolding.{flat}
use Rattle.filter_text.specs.Filters.{sub}
use Rattle.filter_text.specs.Limits.{read}
use Rattle.filter_routes.specs.FaultTests.{fault}
use Rattle.fast_export.specs.ExportTexts.{export_text}
use Rattle.state_items.specs.Items.{change_text, is_canonical, kept_text, read_item, read_items, rule_text, tagged_change_text}
use Rattle.state_items.specs.Changes.{fresh, plan_items, room_of}
use Rattle.push_laws.specs.Examples.{commit, naming, reading, showing}
use Rattle.push_laws.specs.StreamExamples.{replaying}
use Rattle.stream_reader.specs.Blocks.{tag_data}
use Rattle.stream_reader.specs.Heads.{tag}
use Rattle.tag_objects.specs.Tags.{tag_body, tag_object_name}
use Rattle.proj_gate.specs.Policies.{decide, rules}
use Rattle.proj_words.specs.Words.{As, Import, Project, Export, ExportTags, Ask, Tags, Push, Name, Rule, Trial, Batch, Unknown}
use Rattle.proj_words.specs.declared.outcome.Outcome.{Outcome}
use Rattle.proj_words.specs.declared.outcome.Outcome.TheVariants.{Usage, UnknownRef, NotForward, NotAtHead, Limit, FilterFault, Overlap, Damaged, Syntax, Denied, BadPolicy}
use Rattle.proj_words.specs.declared.outcome.FilterWhat.TheVariants as filters
use Rattle.proj_commands.specs.Cases.{Made, ProjectCase, head_of, loaded, verdict}
use Rattle.proj_commands.specs.Push.{name_or_none}
use Rattle.proj_commands.specs.Makes.{recalled_made}
use Rattle.proj_commands.specs.Filters.{sound}
use Rattle.proj_commands.specs.Steps.{step}
use Rattle.proj_commands.specs.Tags.{shown_tags}

-- what a theorem about texts of filters unfolds, so that it computes
unfoldable pub judging : Option Path
unfolding sound read reading fault
judging = None

-- the same of lines of words
unfoldable pub lines_of_words : Option Path
unfolding number is_utf8 chars encode is_ref_name
lines_of_words = None

-- the same of items
unfoldable pub loading : Option Path
unfolding read_items read_item is_canonical read
loading = None

-- the same of what is held and what is new of it
unfoldable pub holding : Option Path
unfolding change_text kept_text fresh find_named has has_name body_of flat tree_entries commit_from tree_objects
holding = None

abbrev pub main : Bytes
main = codes "refs/heads/main"

-- what is written
abbrev pub output_of : Result Made Outcome → Result Bytes Outcome
output_of r = r >>= λ m. Ok m.output

-- what is appended
abbrev pub items_of : Result Made Outcome → Result (List Bytes) Outcome
items_of r = r >>= λ m. Ok (plan_items m.plan)

abbrev pub items_or_none : Result (List Bytes) Outcome → List Bytes
items_or_none (Ok items) = items
items_or_none (Err e) = []

-- an item of no kind
abbrev pub damaged : List Bytes
damaged = (255 ∷ []) ∷ []

-- ---- the first refusal

pub no_form : step Unknown damaged [] ≡ Err Usage
no_form = refl

-- a batch and a trial are no commands in a batch
pub a_batch : step Batch [] [] ≡ Err Usage
a_batch = refl

pub a_trial : step (Trial 1) [] [] ≡ Err Usage
a_trial = refl

pub filters_come_first : step (Project main (codes ":c")) damaged [] ≡ Err (FilterFault filters.Syntax)
unfolding judging
filters_come_first = refl

-- both show their files at the top
pub branches_that_clash : step (Project main (codes ":[:/a,:/b]")) damaged [] ≡ Err (Overlap 0 0 1)
unfolding judging
branches_that_clash = refl

-- also where nothing is known of the items
pub judged_alone : verdict (Export main (codes ":c")) ≡ Err (FilterFault filters.Syntax)
unfolding judging
judged_alone = refl

pub then_items : step (Project main (codes ":/a")) damaged [] ≡ Err (Damaged 0 0)
unfolding judging loading
then_items = refl

pub then_the_ref : step (Export main (codes ":/a")) [] [] ≡ Err UnknownRef
unfolding judging loading
then_the_ref = refl

pub no_push_to_no_ref : step (Push main (codes ":/a")) [] (codes "no stream") ≡ Err UnknownRef
unfolding judging loading
no_push_to_no_ref = refl

-- of a stream the ref comes last
pub nothing_to_name : step (Name main (codes ":/a")) damaged [] ≡ Err UnknownRef
unfolding judging holding replaying
nothing_to_name = refl

-- ---- rules

pub a_rule_is_new : output_of (step (Rule 2) [] []) ≡ Ok (codes "rule 2\n")
unfolding loading digits
a_rule_is_new = refl

pub a_rule_has_an_item : items_of (step (Rule 2) [] []) ≡ Ok (rule_text 2 ∷ [])
unfolding loading
a_rule_has_an_item = refl

pub the_state's_rule : items_of (step (Rule 2) (rule_text 2 ∷ []) []) ≡ Ok []
unfolding loading
the_state's_rule = refl

pub the_first_rule : items_of (step (Rule 1) [] []) ≡ Ok []
unfolding loading
the_first_rule = refl

-- ---- the import of a commit of one file

abbrev stream : Bytes
stream = codes "commit refs/heads/main\ncommitter A <a@x> 1700000000 +0000\ndata 5\ninit\nM 100644 inline a/f\ndata 6\nhello\n"

abbrev original : Snapshot
original = commit ((codes "a" ∷ codes "f" ∷ [], FileLeaf (codes "hello\n")) ∷ []) [] (codes "init\n")

-- its items
abbrev pub imported : List Bytes
imported = items_or_none (items_of (step (Import false) [] stream))

pub an_import_is_reported : output_of (step (Import false) [] stream) ≡ Ok (codes "refs/heads/main 5990ba6163d77f77071ca2e8e9899c368dbc6eb7\n")
unfolding loading holding replaying reading naming digits
an_import_is_reported = refl

pub an_import_has_an_item : (items_of (step (Import false) [] stream) >>= λ items. Ok (map length items)) ≡ Ok (249 ∷ [])
unfolding loading holding replaying reading naming digits
an_import_has_an_item = refl

pub the_import_again : items_of (step (Import false) imported stream) ≡ Ok []
unfolding loading holding replaying reading naming digits
the_import_again = refl

pub a_blob_that_is_too_long : step (Import false) [] (codes "blob\ndata 16777217\n") ≡ Err (Limit limits.Blob (Some 5))
unfolding loading holding replaying reading naming digits
a_blob_that_is_too_long = refl

-- another root on the same ref
abbrev other_stream : Bytes
other_stream = codes "commit refs/heads/main\ncommitter A <a@x> 1700000000 +0000\ndata 0\n"

abbrev other : Snapshot
other = commit [] [] []

pub not_forward : step (Import false) imported other_stream ≡ Err (NotForward main (record { 0 = snapshot_name original }) (record { 0 = snapshot_name other }))
unfolding loading holding replaying reading naming digits
not_forward = refl

pub by_force : output_of (step (Import true) imported other_stream) ≡ Ok (main ++ 32 ∷ (hex (snapshot_name other) ++ 10 ∷ []))
unfolding loading holding replaying reading naming digits
by_force = refl

-- ---- projections of it

pub what_is_projected : output_of (step (Project main (codes ":/a")) imported []) ≡ Ok (codes "6a27ff6de5d45a65cc66723c6ae6227ea6004aa6\n")
unfolding judging showing loading holding replaying reading naming digits
what_is_projected = refl

pub nothing_is_projected : output_of (step (Project main (codes ":/b")) imported []) ≡ Ok (codes "none\n")
unfolding judging showing loading holding replaying reading naming digits
nothing_is_projected = refl

pub named_without_a_state : output_of (step (Name main (codes ":/a")) damaged stream) ≡ Ok (codes "6a27ff6de5d45a65cc66723c6ae6227ea6004aa6\n")
unfolding judging showing loading holding replaying reading naming digits
named_without_a_state = refl

pub what_is_exported : output_of (step (Export main (codes ":/a")) imported [])
    ≡ Ok (codes "blob\nmark :1\ndata 6\nhello\n\nreset refs/heads/main\ncommit refs/heads/main\nmark :2\nauthor A <a@x> 1700000000 +0000\ncommitter A <a@x> 1700000000 +0000\ndata 5\ninit\n\ndeleteall\nM 100644 :1 f\n\nreset refs/heads/main\nfrom :2\n\n")
unfolding judging showing loading holding replaying reading naming digits export_text quote quoted_byte
what_is_exported = refl

pub an_empty_push : items_of (step (Push main (codes ":/a")) imported []) ≡ Ok []
unfolding judging showing loading holding replaying reading naming digits
an_empty_push = refl

-- ---- what is kept

-- an item that keeps no projection of it, which isn't true
abbrev untrue : List Bytes
untrue = imported ++ kept_text 1 (codes ":/a") ((snapshot_name original, None) ∷ []) ∷ []

pub a_step_asks_nothing_kept : output_of (step (Project main (codes ":/a")) untrue []) ≡ Ok (codes "6a27ff6de5d45a65cc66723c6ae6227ea6004aa6\n")
unfolding judging showing loading holding replaying reading naming digits
a_step_asks_nothing_kept = refl

pub what_is_kept_is_recalled : output_of (loaded untrue >>= λ h. head_of main h.refs >>= λ n. recalled_made (room_of untrue) (ProjectCase h (sub (codes "a" ∷ [])) n)) ≡ Ok (codes "none\n")
unfolding judging showing loading holding replaying reading naming digits
what_is_kept_is_recalled = refl

-- ---- pushes through `:/a`

-- a commit of a/f and b/k
abbrev two_imported : List Bytes
two_imported = items_or_none (items_of (step (Import false) [] (stream ++ codes "M 100644 inline b/k\ndata 6\nhello\n")))

-- one writes g, and the next one, upon it, removes f
abbrev pushed : Bytes
pushed = codes "commit refs/heads/main\ncommitter A <a@x> 1700000001 +0000\ndata 3\np1\nfrom 6a27ff6de5d45a65cc66723c6ae6227ea6004aa6\nM 100644 inline g\ndata 2\n1\n\ncommit refs/heads/main\ncommitter A <a@x> 1700000002 +0000\ndata 3\np2\nD f\n"

pub two_originals : output_of (step (Push main (codes ":/a")) two_imported pushed)
    ≡ Ok (codes "21c8dcd98bd914d4a202c87b6f55917c9606761b ef035742e8efa619a31f71f4f95d2397e1479642\n603e327e45d6237f0ea929264b187f78ba56c8de 4e68c535c067753715bf12b4b89df544b63c1362\n")
unfolding judging showing loading holding replaying reading naming digits
two_originals = refl

abbrev after_the_push : List Bytes
after_the_push = two_imported ++ items_or_none (items_of (step (Push main (codes ":/a")) two_imported pushed))

-- the ref's commit is then projected to the last pushed one
pub projected_again : output_of (step (Project main (codes ":/a")) after_the_push []) ≡ Ok (codes "603e327e45d6237f0ea929264b187f78ba56c8de\n")
unfolding judging showing loading holding replaying reading naming digits
projected_again = refl

-- the same push again stands upon the old projection
pub not_at_the_head : step (Push main (codes ":/a")) after_the_push pushed
    ≡ Err (NotAtHead (name_or_none (digits_name (codes "603e327e45d6237f0ea929264b187f78ba56c8de"))) (name_or_none (digits_name (codes "6a27ff6de5d45a65cc66723c6ae6227ea6004aa6"))))
unfolding judging showing loading holding replaying reading naming digits
not_at_the_head = refl

-- ---- annotated tags

-- what a theorem about annotated tags unfolds beside that, so that it computes
unfoldable pub tagging : Option Path
unfolding tag tag_data tagged_change_text tag_object_name
tagging = None

-- a commit of a/f and b/g with the tag v1, and another root with the tag v2
abbrev tagged : List Bytes
tagged = items_or_none (items_of (step (Import false) [] (stream
    ++ codes "M 100644 inline b/g\ndata 6\nhello\ntag v1\nfrom refs/heads/main\ntagger A <a@x> 1700000000 +0000\ndata 3\nv1\n"
    ++ codes "commit refs/heads/other\ncommitter A <a@x> 1700000000 +0000\ndata 5\nside\nM 100644 inline a/f\ndata 6\nhello\n"
    ++ codes "tag v2\nfrom refs/heads/other\ntagger A <a@x> 1700000000 +0000\ndata 3\nv2\n")))

-- of the projected commit, which is no ancestor of the other one
pub a_tag_is_shown : output_of (step (Ask (Tags main (codes ":/a"))) tagged []) ≡ Ok (codes "v1 d88c050478c5950055596d4c1e52f78a773f00eb\n")
unfolding judging showing loading holding replaying reading naming digits tagging
a_tag_is_shown = refl

pub the_body_of_its_object : (loaded tagged >>= λ h. head_of main h.refs >>= λ n. Ok (map (λ t. length (tag_body t)) (shown_tags h (sub (codes "a" ∷ [])) n))) ≡ Ok (103 ∷ [])
unfolding judging showing loading holding replaying reading naming digits tagging
the_body_of_its_object = refl

pub no_tag_is_shown : output_of (step (Ask (Tags main (codes ":/c"))) tagged []) ≡ Ok []
unfolding judging showing loading holding replaying reading naming digits tagging
no_tag_is_shown = refl

pub tags_of_no_ref : step (Ask (Tags (codes "refs/heads/none") (codes ":/a"))) tagged [] ≡ Err UnknownRef
unfolding judging showing loading holding replaying reading naming digits tagging
tags_of_no_ref = refl

pub a_tag_is_exported : output_of (step (ExportTags main (codes ":/a")) tagged [])
    ≡ Ok (codes "blob\nmark :1\ndata 6\nhello\n\nreset refs/heads/main\ncommit refs/heads/main\nmark :2\nauthor A <a@x> 1700000000 +0000\ncommitter A <a@x> 1700000000 +0000\ndata 5\ninit\n\ndeleteall\nM 100644 :1 f\n\nreset refs/heads/main\nfrom :2\n\ntag v1\nfrom 6a27ff6de5d45a65cc66723c6ae6227ea6004aa6\ntagger A <a@x> 1700000000 +0000\ndata 3\nv1\n\n")
unfolding judging showing loading holding replaying reading naming digits tagging export_text quote quoted_byte
a_tag_is_exported = refl

pub nothing_is_exported : output_of (step (ExportTags main (codes ":/c")) tagged []) ≡ Ok []
unfolding judging showing loading holding replaying reading naming digits tagging export_text
nothing_is_exported = refl

-- ---- commands of users

-- what a theorem about policies unfolds beside that, so that it computes
unfoldable pub ruling : Option Path
unfolding rules decide
ruling = None

abbrev ann : Bytes
ann = codes "ann"

abbrev bob : Bytes
bob = codes "bob"

-- the two directories, with a policy beside them: what stands at `access` in the commit of its ref
abbrev ruled : Bytes → List Bytes
ruled access =
    two_imported
    ++ items_or_none (items_of (step (Import false) two_imported
    (codes "commit refs/proj/policy\ncommitter A <a@x> 1700000000 +0000\ndata 0\nM " ++ access)))

abbrev policy : Bytes
policy = codes "allow ann push refs/heads/main :/a\nallow * see refs/heads/* :/b\ndeny * see refs/heads/main :/a\n"

abbrev by_policy : List Bytes
by_policy = ruled (codes "100644 inline access\ndata 95\n" ++ policy)

-- only the pushed commits are told
pub a_user_pushes : output_of (step (As ann (Push main (codes ":/a"))) by_policy pushed)
    ≡ Ok (codes "21c8dcd98bd914d4a202c87b6f55917c9606761b\n603e327e45d6237f0ea929264b187f78ba56c8de\n")
unfolding judging showing loading holding replaying reading naming digits ruling
a_user_pushes = refl

pub what_is_shown_to_a_user : output_of (step (As bob (Project main (codes ":/b"))) by_policy []) ≡ output_of (step (Project main (codes ":/b")) by_policy [])
unfolding judging showing loading holding replaying reading naming digits ruling
what_is_shown_to_a_user = refl

-- the second rule speaks of another filter
pub a_rule_denies : step (As bob (Project main (codes ":/a"))) by_policy [] ≡ Err (Denied 3)
unfolding judging showing loading holding replaying reading naming digits ruling
a_rule_denies = refl

pub no_rule_speaks_of_it : step (As bob (Push main (codes ":/b"))) by_policy [] ≡ Err (Denied 0)
unfolding judging showing loading holding replaying reading naming digits ruling
no_rule_speaks_of_it = refl

-- also where no such ref is there
pub denied_before_the_ref : step (As ann (Export (codes "refs/heads/none") (codes ":/a"))) by_policy [] ≡ Err (Denied 0)
unfolding judging showing loading holding replaying reading naming digits ruling
denied_before_the_ref = refl

-- a bad line is told to everybody, whatever the lines before it allow
pub a_bad_line : step (As ann (Push main (codes ":/a")))
    (ruled (codes "100644 inline access\ndata 96\nallow ann push refs/heads/main :/a\nallow * look refs/heads/* :/b\ndeny * see refs/heads/main :/a\n")) pushed
    ≡ Err (BadPolicy 2)
unfolding judging showing loading holding replaying reading naming digits ruling
a_bad_line = refl

pub a_link_has_no_rules : step (As ann (Push main (codes ":/a"))) (ruled (codes "120000 inline access\ndata 95\n" ++ policy)) pushed ≡ Err (Denied 0)
unfolding judging showing loading holding replaying reading naming digits ruling
a_link_has_no_rules = refl

pub no_policy_has_no_rules : step (As ann (Push main (codes ":/a"))) two_imported pushed ≡ Err (Denied 0)
unfolding judging showing loading holding replaying reading naming digits ruling
no_policy_has_no_rules = refl

pub a_user's_filter_comes_first : step (As ann (Project main (codes ":c"))) damaged [] ≡ Err (FilterFault filters.Syntax)
unfolding judging
a_user's_filter_comes_first = refl

pub then_a_user's_items : step (As ann (Project main (codes ":/a"))) damaged [] ≡ Err (Damaged 0 0)
unfolding judging loading
then_a_user's_items = refl
