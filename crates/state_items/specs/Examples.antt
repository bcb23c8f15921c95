-- Worked examples.
use Rattle.std.specs.Prelude.{◌≡◌, refl, ◌^◌, true, false, List, [], ◌∷◌, ◌++◌, codes, length, replicate, reverse, take, Some, None, Ok, Err}
use Rattle.std.specs.Fmt.{digits}
use Rattle.git_objects.specs.Paths.{Bytes}
use Rattle.git_objects.specs.Trees.{Flat, FileLeaf}
use Rattle.git_objects.specs.Names.{name, body, line}
use Rattle.git_objects.specs.Bodies.{tree_entries}
use Rattle.git_objects.specs.Commits.{commit_body, commit_name}
use Rattle.git_objects.specs.CommitBodies.{commit_from}
use Rattle.git_objects.specs.Idents.{is_ident}
use Rattle.git_objects.specs.Refs.{Refs}
use Rattle.git_objects.specs.Snapshots.{Snapshot, snapshot_name}
use Rattle.git_objects.specs.declared.kind.Kind.TheVariants.{Tree}
use Rattle.git_objects.specs.declared.quantity.Quantity.TheVariants as limits
use Rattle.path_names.specs.PathTexts.{path_of}
use Rattle.path_names.specs.Quoting.{unquote}
use Rattle.path_names.specs.RefNames.{is_ref_name}
use Rattle.object_store.specs.Objects.{Object, find_named, has, has_name, body_of}
use Rattle.object_store.specs.StoredSnapshots.{snapshot_object}
use Rattle.object_store.specs.TreeObjects.{tree_objects}
use Rattle.object_store.specs.Unfolding.{flat}
use Rattle.filter_text.specs.Limits.{read}
use Rattle.filter_text.specs.Reading.{word_at, pieces_at, list_at}
use Rattle.filter_text.specs.Texts.{name_at, kept_name_at, target_at}
use Rattle.commit_map.specs.Shown.{Shown}
use Rattle.hex.specs.Hex.{encode_with, decode_pairs}
use Rattle.sha1.specs.Sha1.{sha1, first_words, schedule, rounds, compress, hash_after, digest_bytes}
use Rattle.tag_objects.specs.declared.tag.Tag.{Tag}
use Rattle.state_items.specs.Fields.{BrokenAt}
use Rattle.state_items.specs.Items.{Held, change_text, is_canonical, kept_text, nothing, read_item, read_items, rule_text, tag_item_text, tagged_change_text}
use Rattle.state_items.specs.Repos.{are_used, repo}
use Rattle.state_items.specs.Appending.{are_refs}
use Rattle.state_items.specs.Imported.{with_blobs, with_commits}
use Rattle.state_items.specs.Changes.{ChangePlan, KeepPlan, NoPlan, RulePlan, TagPlan, blob_object, change_plan, fresh, held_after, moved, objects_of, passed, plan_items, rule_plan, tagged_plan}

abbrev ident : Bytes
ident = codes "A <a@x> 1700000000 +0000"

abbrev hello : Bytes
hello = codes "hello\n"

abbrev main : Bytes
main = codes "refs/heads/main"

-- a commit of the file `a/f`
abbrev files : Flat
files = (codes "a" ∷ codes "f" ∷ [], FileLeaf hello) ∷ []

abbrev inner : Flat
inner = (codes "f" ∷ [], FileLeaf hello) ∷ []

abbrev first : Snapshot
first = record { tree = files; parents = []; letter = record { author = ident; committer = ident; message = codes "init\n" } }

abbrev tree_of : Flat → Object
tree_of t = record { kind = Tree; body = body t }

abbrev objects : List Object
objects = blob_object hello ∷ tree_of inner ∷ tree_of files ∷ snapshot_object first ∷ []

-- what is held with it, under one ref
abbrev held : Held
held = record { objects = reverse objects; refs = (main, snapshot_name first) ∷ []; kept = []; rule = 1; tags = [] }

-- ---- the first bytes

pub nothing_read : read_items [] ≡ Ok nothing
unfolding read_items
nothing_read = refl

pub no_such_format : read_items ((255 ∷ []) ∷ []) ≡ Err (0, BrokenAt 0)
unfolding read_items read_item
no_such_format = refl

pub no_kind : read_items ((1 ∷ []) ∷ []) ≡ Err (0, BrokenAt 1)
unfolding read_items read_item
no_kind = refl

-- a change has the first format alone
pub a_kind_of_the_other_format : read_items ((2 ∷ 1 ∷ []) ∷ []) ≡ Err (0, BrokenAt 1)
unfolding read_items read_item
a_kind_of_the_other_format = refl

-- a rule the second
pub a_rule_of_the_other_format : read_items ((1 ∷ 3 ∷ 1 ∷ []) ∷ []) ≡ Err (0, BrokenAt 1)
unfolding read_items read_item
a_rule_of_the_other_format = refl

-- the second item is told by its number
pub the_second_item : read_items ((2 ∷ 3 ∷ 2 ∷ []) ∷ (2 ∷ 3 ∷ []) ∷ []) ≡ Err (1, BrokenAt 2)
unfolding read_items read_item
the_second_item = refl

-- ---- rules

pub a_rule_is_written : rule_text 2 ≡ 2 ∷ 3 ∷ 2 ∷ []
a_rule_is_written = refl

pub a_rule_is_set : read_items ((2 ∷ 3 ∷ 2 ∷ []) ∷ []) ≡ Ok (record { objects = []; refs = []; kept = []; rule = 2; tags = [] })
unfolding read_items read_item
a_rule_is_set = refl

pub no_such_rule : read_items ((2 ∷ 3 ∷ 3 ∷ []) ∷ []) ≡ Err (0, BrokenAt 2)
unfolding read_items read_item
no_such_rule = refl

pub a_rule_and_more : read_items ((2 ∷ 3 ∷ 1 ∷ 0 ∷ []) ∷ []) ≡ Err (0, BrokenAt 3)
unfolding read_items read_item
a_rule_and_more = refl

-- the rule stands already, or is new
pub the_rule_stands : rule_plan nothing 1 ≡ NoPlan
the_rule_stands = refl

pub the_rule_is_new : plan_items (rule_plan nothing 2) ≡ (2 ∷ 3 ∷ 2 ∷ []) ∷ []
the_rule_is_new = refl

-- ---- changes

pub no_objects_number : read_items ((1 ∷ 1 ∷ 0 ∷ 0 ∷ []) ∷ []) ≡ Err (0, BrokenAt 2)
unfolding read_items read_item
no_objects_number = refl

pub nothing_said : read_items ((1 ∷ 1 ∷ 0 ∷ 0 ∷ 0 ∷ 0 ∷ 0 ∷ 0 ∷ 0 ∷ 0 ∷ []) ∷ []) ≡ Ok nothing
unfolding read_items read_item
nothing_said = refl

pub more_behind : read_items ((1 ∷ 1 ∷ 0 ∷ 0 ∷ 0 ∷ 0 ∷ 0 ∷ 0 ∷ 0 ∷ 0 ∷ 7 ∷ []) ∷ []) ≡ Err (0, BrokenAt 10)
unfolding read_items read_item
more_behind = refl

pub no_kind_of_object : read_items ((1 ∷ 1 ∷ 0 ∷ 0 ∷ 0 ∷ 1 ∷ 4 ∷ []) ∷ []) ≡ Err (0, BrokenAt 6)
unfolding read_items read_item
no_kind_of_object = refl

pub the_objects_of_a_commit : objects_of (hello ∷ []) (first ∷ []) ≡ blob_object hello ∷ objects
unfolding tree_objects
the_objects_of_a_commit = refl

-- the item that importing the commit into an empty store appends
abbrev item : Bytes
item = change_text objects held.refs

pub item_long : length item ≡ 249
unfolding change_text commit_body commit_name encode_with body line name digits first_words schedule rounds compress hash_after digest_bytes sha1
item_long = refl

pub what_is_new : change_plan nothing (objects_of (hello ∷ []) (first ∷ [])) held.refs ≡ ChangePlan objects held.refs
unfolding fresh tree_objects has_name commit_body commit_name encode_with body line name digits first_words schedule rounds compress hash_after digest_bytes sha1
what_is_new = refl

pub nothing_is_new_again : change_plan held (objects_of (hello ∷ []) (first ∷ [])) held.refs ≡ NoPlan
unfolding fresh tree_objects has_name commit_body commit_name encode_with body line name digits first_words schedule rounds compress hash_after digest_bytes sha1
nothing_is_new_again = refl

-- the whole item is read back, and a cut of it is told at the field that is cut
pub item_read : read_items (item ∷ []) ≡ Ok held
unfolding read_items read_item is_ref_name tree_entries commit_from decode_pairs is_ident find_named has has_name body_of flat change_text commit_body commit_name encode_with body line name digits first_words schedule rounds compress hash_after digest_bytes sha1
item_read = refl

pub cut_in_the_second_body : read_items (take 26 item ∷ []) ≡ Err (0, BrokenAt 22)
unfolding read_items read_item is_ref_name tree_entries commit_from decode_pairs is_ident find_named has has_name body_of flat change_text commit_body commit_name encode_with body line name digits first_words schedule rounds compress hash_after digest_bytes sha1
cut_in_the_second_body = refl

-- the same objects again are broken at the first body
pub the_item_again : read_items (item ∷ item ∷ []) ≡ Err (1, BrokenAt 11)
unfolding read_items read_item is_ref_name tree_entries commit_from decode_pairs is_ident find_named has has_name body_of flat change_text commit_body commit_name encode_with body line name digits first_words schedule rounds compress hash_after digest_bytes sha1
the_item_again = refl

abbrev before : Refs
before = (codes "a", codes "1") ∷ (codes "b", codes "2") ∷ []

-- refs: one that moves, one that stays, and one that is new, in byte order
pub what_moves : moved before ((codes "c", codes "3") ∷ (codes "a", codes "1") ∷ (codes "b", codes "9") ∷ [])
    ≡ (codes "b", codes "9") ∷ (codes "c", codes "3") ∷ []
what_moves = refl

pub no_room_for_another_item : passed nothing (record { number = 2 ^ 20; size = 0 }) (RulePlan 2) ≡ Some limits.Items
no_room_for_another_item = refl

pub no_limit_without_an_item : passed nothing (record { number = 2 ^ 20; size = 2 ^ 31 }) NoPlan ≡ None
no_limit_without_an_item = refl

-- ---- what is held

pub one_commit : repo held ≡ record { blobs = hello ∷ []; commits = first ∷ []; refs = held.refs }
unfolding has has_name body_of flat tree_entries commit_from is_ident decode_pairs commit_body commit_name encode_with body line name digits first_words schedule rounds compress hash_after digest_bytes sha1
one_commit = refl

pub nothing_beside_it : are_used held.objects ≡ true
unfolding tree_objects has has_name body_of flat tree_entries commit_from is_ident decode_pairs commit_body commit_name encode_with body line name digits first_words schedule rounds compress hash_after digest_bytes sha1
nothing_beside_it = refl

pub a_lone_tree_is_beside_it : are_used (record { kind = Tree; body = [] } ∷ []) ≡ false
a_lone_tree_is_beside_it = refl

-- ---- what is brought

-- each blob once, those that come in front of those before
pub blobs_once : with_blobs (codes "a" ∷ []) (codes "b" ∷ codes "a" ∷ codes "b" ∷ []) ≡ codes "b" ∷ codes "a" ∷ []
blobs_once = refl

pub a_commit_once : with_commits (first ∷ []) (first ∷ []) ≡ first ∷ []
unfolding commit_body commit_name encode_with body line name digits first_words schedule rounds compress hash_after digest_bytes sha1
a_commit_once = refl

abbrev rising : Refs
rising = (codes "refs/heads/a", snapshot_name first) ∷ (codes "refs/heads/b", snapshot_name first) ∷ []

-- refs rise, and name commits that are held
pub refs_that_rise : are_refs held.objects None rising ≡ true
unfolding has is_ref_name commit_body commit_name encode_with body line name digits first_words schedule rounds compress hash_after digest_bytes sha1
refs_that_rise = refl

pub refs_that_fall : are_refs held.objects None (reverse rising) ≡ false
unfolding has is_ref_name commit_body commit_name encode_with body line name digits first_words schedule rounds compress hash_after digest_bytes sha1
refs_that_fall = refl

pub a_ref_to_nothing : are_refs [] None ((main, snapshot_name first) ∷ []) ≡ false
unfolding has is_ref_name
a_ref_to_nothing = refl

-- ---- texts of filters

pub a_text : is_canonical (codes ":/a") ≡ true
unfolding is_canonical read pieces_at list_at target_at name_at kept_name_at word_at path_of unquote
a_text = refl

-- blanks in a list are no part of the canonical text
pub not_as_it_is_printed : is_canonical (codes ":[ :/a:prefix=a , :/b:prefix=b ]") ≡ false
unfolding is_canonical read pieces_at list_at target_at name_at kept_name_at word_at path_of unquote
not_as_it_is_printed = refl

pub a_list : is_canonical (codes ":[:/a:prefix=a,:/b:prefix=b]") ≡ true
unfolding is_canonical read pieces_at list_at target_at name_at kept_name_at word_at path_of unquote
a_list = refl

-- two directories on the same place
pub not_sound : is_canonical (codes ":[:/a,:/b]") ≡ false
unfolding is_canonical read pieces_at list_at target_at name_at kept_name_at word_at path_of unquote
not_sound = refl

-- ---- kept projections

abbrev text : Bytes
text = codes ":/a"

abbrev shown : Shown
shown = record { commit = replicate 20 17; tree = replicate 20 34 }

abbrev original : Bytes
original = snapshot_name first

-- one entry of three times twenty bytes, the byte between them, and its head with a filter of three bytes
pub a_kept_item_long : length (kept_text 1 text ((replicate 20 17, Some shown) ∷ [])) ≡ 73
unfolding kept_text
a_kept_item_long = refl

-- a text that isn't canonical is told at the text
pub not_a_text : read_items (kept_text 1 (codes ":/a ") [] ∷ []) ≡ Err (0, BrokenAt 5)
unfolding read_items read_item kept_text is_canonical read pieces_at list_at target_at name_at kept_name_at word_at path_of unquote
not_a_text = refl

-- in the older format the text stands one byte before
pub in_the_older_format : read_items ((1 ∷ 2 ∷ 0 ∷ 4 ∷ codes ":/a ") ∷ []) ≡ Err (0, BrokenAt 4)
unfolding read_items read_item is_canonical read pieces_at list_at target_at name_at kept_name_at word_at path_of unquote
in_the_older_format = refl

-- an original that isn't held is told at its name
pub not_an_original : read_items (kept_text 1 text ((replicate 20 17, None) ∷ []) ∷ []) ≡ Err (0, BrokenAt 12)
unfolding read_items read_item kept_text has is_canonical read pieces_at list_at target_at name_at kept_name_at word_at path_of unquote
not_an_original = refl

-- no rule 3
pub kept_for_no_rule : read_items (kept_text 3 text [] ∷ []) ≡ Err (0, BrokenAt 2)
unfolding read_items read_item kept_text
kept_for_no_rule = refl

pub kept_for_nothing : read_items (kept_text 2 text [] ∷ []) ≡ Ok nothing
unfolding read_items read_item kept_text is_canonical read pieces_at list_at target_at name_at kept_name_at word_at path_of unquote
kept_for_nothing = refl

-- the projection of a commit that is held
abbrev with_kept : Held
with_kept = held_after held (KeepPlan 2 text ((original, Some shown) ∷ []))

pub one_is_kept : read_item held (kept_text 2 text ((original, Some shown) ∷ [])) ≡ Ok with_kept
unfolding read_item kept_text is_canonical read pieces_at list_at target_at name_at kept_name_at word_at path_of unquote has commit_body commit_name encode_with body line name digits first_words schedule rounds compress hash_after digest_bytes sha1
one_is_kept = refl

-- the older format has no byte for the rule, and is kept for rule 1
pub of_rule_1 : read_item held (1 ∷ 2 ∷ (0 ∷ 3 ∷ text ++ (0 ∷ 0 ∷ 0 ∷ 1 ∷ []) ++ original ++ 0 ∷ []))
    ≡ Ok (held_after held (KeepPlan 1 text ((original, None) ∷ [])))
unfolding read_item is_canonical read pieces_at list_at target_at name_at kept_name_at word_at path_of unquote has commit_body commit_name encode_with body line name digits first_words schedule rounds compress hash_after digest_bytes sha1
of_rule_1 = refl

-- neither none nor one
pub no_such_result : read_item held (1 ∷ 2 ∷ (0 ∷ 3 ∷ text ++ (0 ∷ 0 ∷ 0 ∷ 1 ∷ []) ++ original ++ 2 ∷ []))
    ≡ Err (BrokenAt 31)
unfolding read_item is_canonical read pieces_at list_at target_at name_at kept_name_at word_at path_of unquote has commit_body commit_name encode_with body line name digits first_words schedule rounds compress hash_after digest_bytes sha1
no_such_result = refl

-- a second entry of one original, in the same item and in a later one
pub twice_in_one_item : read_item held (kept_text 2 text ((original, None) ∷ (original, Some shown) ∷ []))
    ≡ Err (BrokenAt 33)
unfolding read_item kept_text is_canonical read pieces_at list_at target_at name_at kept_name_at word_at path_of unquote has commit_body commit_name encode_with body line name digits first_words schedule rounds compress hash_after digest_bytes sha1
twice_in_one_item = refl

pub kept_again : read_item with_kept (kept_text 2 text ((original, None) ∷ [])) ≡ Err (BrokenAt 12)
unfolding read_item kept_text is_canonical read pieces_at list_at target_at name_at kept_name_at word_at path_of unquote has commit_body commit_name encode_with body line name digits first_words schedule rounds compress hash_after digest_bytes sha1
kept_again = refl

-- for another rule it is another entry
pub kept_for_another_rule : read_item with_kept (kept_text 1 text ((original, None) ∷ []))
    ≡ Ok (held_after with_kept (KeepPlan 1 text ((original, None) ∷ [])))
unfolding read_item kept_text is_canonical read pieces_at list_at target_at name_at kept_name_at word_at path_of unquote has commit_body commit_name encode_with body line name digits first_words schedule rounds compress hash_after digest_bytes sha1
kept_for_another_rule = refl

-- ---- tags

-- a tag of the commit
abbrev v1 : Bytes → Tag
v1 message = record { name = codes "v1"; target = record { 0 = snapshot_name first }; tagger = ident; message = message }

abbrev tagged : Held
tagged = record held { tags = v1 (codes "v1\n") ∷ [] }

-- the item that importing the commit with the tag into an empty store appends
abbrev tagged_item : Bytes
tagged_item = tagged_change_text objects held.refs tagged.tags

pub tagged_item_long : length tagged_item ≡ 312
unfolding tagged_change_text commit_body commit_name encode_with body line name digits first_words schedule rounds compress hash_after digest_bytes sha1
tagged_item_long = refl

pub what_is_new_with_a_tag : tagged_plan nothing (objects_of (hello ∷ []) (first ∷ [])) held.refs tagged.tags ≡ TagPlan objects held.refs tagged.tags
unfolding fresh tree_objects has_name commit_body commit_name encode_with body line name digits first_words schedule rounds compress hash_after digest_bytes sha1
what_is_new_with_a_tag = refl

-- without tags it is a change
pub without_tags : tagged_plan nothing (objects_of (hello ∷ []) (first ∷ [])) held.refs [] ≡ ChangePlan objects held.refs
unfolding fresh tree_objects has_name commit_body commit_name encode_with body line name digits first_words schedule rounds compress hash_after digest_bytes sha1
without_tags = refl

-- the whole item is read back
pub tagged_item_read : read_items (tagged_item ∷ []) ≡ Ok tagged
unfolding read_items read_item is_ref_name tree_entries commit_from decode_pairs is_ident find_named has has_name body_of flat tagged_change_text commit_body commit_name encode_with body line name digits first_words schedule rounds compress hash_after digest_bytes sha1
tagged_item_read = refl

-- setting a tag to what it is changes nothing
pub the_same_tag_again : tagged_plan tagged (objects_of (hello ∷ []) (first ∷ [])) held.refs tagged.tags ≡ NoPlan
unfolding fresh tree_objects has_name commit_body commit_name encode_with body line name digits first_words schedule rounds compress hash_after digest_bytes sha1
the_same_tag_again = refl

-- an item of a tag alone: the bytes 2 and 4, no object, no ref, and one tag
abbrev tag_alone : Bytes
tag_alone = 2 ∷ 4 ∷ 0 ∷ 0 ∷ 0 ∷ 0 ∷ 0 ∷ 0 ∷ 0 ∷ 0 ∷ 0 ∷ 0 ∷ 0 ∷ 1 ∷ tag_item_text (v1 (codes "v2\n"))

pub another_message : plan_items (tagged_plan tagged [] [] (v1 (codes "v2\n") ∷ [])) ≡ tag_alone ∷ []
unfolding fresh tagged_change_text commit_body commit_name encode_with body line name digits first_words schedule rounds compress hash_after digest_bytes sha1
another_message = refl

-- a tag has the value that was set last
pub the_last_message : read_items (tagged_item ∷ tag_alone ∷ []) ≡ Ok (record held { tags = v1 (codes "v2\n") ∷ [] })
unfolding read_items read_item is_ref_name tree_entries commit_from decode_pairs is_ident find_named has has_name body_of flat tagged_change_text commit_body commit_name encode_with body line name digits first_words schedule rounds compress hash_after digest_bytes sha1
the_last_message = refl

-- ---- places of breaks, behind the fields of objects and refs

abbrev no_change : Bytes
no_change = 2 ∷ 4 ∷ 0 ∷ 0 ∷ 0 ∷ 0 ∷ 0 ∷ 0 ∷ 0 ∷ 0 ∷ []

-- tags have the second format alone
pub tags_of_the_other_format : read_items ((1 ∷ 4 ∷ []) ∷ []) ≡ Err (0, BrokenAt 1)
unfolding read_items read_item
tags_of_the_other_format = refl

pub no_number_of_tags : read_items ((no_change ++ 0 ∷ 0 ∷ []) ∷ []) ≡ Err (0, BrokenAt 10)
unfolding read_items read_item
no_number_of_tags = refl

pub no_tags : read_items ((no_change ++ 0 ∷ 0 ∷ 0 ∷ 0 ∷ []) ∷ []) ≡ Ok nothing
unfolding read_items read_item
no_tags = refl

pub more_behind_tags : read_items ((no_change ++ 0 ∷ 0 ∷ 0 ∷ 0 ∷ 7 ∷ []) ∷ []) ≡ Err (0, BrokenAt 14)
unfolding read_items read_item
more_behind_tags = refl

-- a text that names no tag is told at its first byte
pub no_tag_name : read_items ((no_change ++ 0 ∷ 0 ∷ 0 ∷ 1 ∷ 0 ∷ 1 ∷ 32 ∷ []) ∷ []) ≡ Err (0, BrokenAt 16)
unfolding read_items read_item is_ref_name
no_tag_name = refl

-- and a name that doesn't rise at its own
pub a_tag_twice : read_item held (tagged_change_text [] [] (v1 (codes "v1\n") ∷ v1 (codes "v2\n") ∷ [])) ≡ Err (BrokenAt 75)
unfolding read_items read_item is_ref_name tree_entries commit_from decode_pairs is_ident find_named has has_name body_of flat tagged_change_text commit_body commit_name encode_with body line name digits first_words schedule rounds compress hash_after digest_bytes sha1
a_tag_twice = refl

-- a commit that isn't held is told at its name
pub a_tag_of_nothing : read_items (tag_alone ∷ []) ≡ Err (0, BrokenAt 18)
unfolding read_items read_item is_ref_name tree_entries commit_from decode_pairs is_ident find_named has has_name body_of flat tagged_change_text commit_body commit_name encode_with body line name digits first_words schedule rounds compress hash_after digest_bytes sha1
a_tag_of_nothing = refl

-- a text that is no ident at its first byte
pub no_tagger : read_item held (tagged_change_text [] [] (record (v1 (codes "v1\n")) { tagger = codes "A" } ∷ [])) ≡ Err (BrokenAt 42)
unfolding read_items read_item is_ref_name tree_entries commit_from decode_pairs is_ident find_named has has_name body_of flat tagged_change_text commit_body commit_name encode_with body line name digits first_words schedule rounds compress hash_after digest_bytes sha1
no_tagger = refl

-- of the item that was appended, cut: in the length of the tagger, in the tagger, and in the message
pub cut_before_the_tagger : read_items (take 280 tagged_item ∷ []) ≡ Err (0, BrokenAt 277)
unfolding read_items read_item is_ref_name tree_entries commit_from decode_pairs is_ident find_named has has_name body_of flat tagged_change_text commit_body commit_name encode_with body line name digits first_words schedule rounds compress hash_after digest_bytes sha1
cut_before_the_tagger = refl

pub cut_in_the_tagger : read_items (take 290 tagged_item ∷ []) ≡ Err (0, BrokenAt 281)
unfolding read_items read_item is_ref_name tree_entries commit_from decode_pairs is_ident find_named has has_name body_of flat tagged_change_text commit_body commit_name encode_with body line name digits first_words schedule rounds compress hash_after digest_bytes sha1
cut_in_the_tagger = refl

pub cut_in_the_message : read_items (take 311 tagged_item ∷ []) ≡ Err (0, BrokenAt 309)
unfolding read_items read_item is_ref_name tree_entries commit_from decode_pairs is_ident find_named has has_name body_of flat tagged_change_text commit_body commit_name encode_with body line name digits first_words schedule rounds compress hash_after digest_bytes sha1
cut_in_the_message = refl
