-- What is written with tags is read again, upon what was there.
use Rattle.std.specs.Prelude.{◌≡◌, ◌≢◌, ◌≤◌, ℕ, true, List, ◌++◌, [], length, Ok, Err}
use Rattle.git_objects.specs.Paths.{Bytes}
use Rattle.git_objects.specs.Snapshots.{Snapshot}
use Rattle.git_objects.specs.Trees.{Flat}
use Rattle.git_objects.specs.declared.limits.TheConstants.{STREAM_BYTES}
use Rattle.git_objects.specs.declared.quantity.Quantity.{Quantity}
use Rattle.path_names.specs.RefNames.{is_ref_name}
use Rattle.stream_reader.specs.declared.fault.StreamFault.TheVariants.{Limit}
use Rattle.tag_objects.specs.Tags.{tags_text}
use Rattle.tag_objects.specs.declared.tag.Tag.{Tag}
use Rattle.fast_import.specs.Replays.{Base, TaggedReplayed, tagged_replay}
use Rattle.fast_export.specs.Laws.{has_no_zero, head_at_last}
use Rattle.fast_export.specs.TagLaws.{AreTagsOf}
use Rattle.incremental_export.specs.ChangeTexts.{changes_text}
use Rattle.incremental_export.specs.Laws.{AreNewUpon}

-- the text of an incremental export, and the commands of tags behind it
abbrev pub tagged_changes : (Bytes → Flat) → List Snapshot → Bytes → List Tag → Bytes
tagged_changes tree_of cs refname ts = changes_text tree_of cs refname ++ tags_text ts

-- these commits, with their parents and so with their names, the ref at the last, and these tags, so that their objects have
-- the same names
pub record IsTaggedUpon (base : Base) (text : Bytes) (cs : List Snapshot) (refname : Bytes) (ts : List Tag) : Type 0 where
  pub given : TaggedReplayed
  pub read : tagged_replay base text ≡ Ok given
  pub commits : given.replayed.commits ≡ cs
  pub heads : given.replayed.heads ≡ head_at_last refname cs
  pub tags : given.tags ≡ ts

-- What is written of commits with their tags is read again upon what was there, as the same commits, ref and tags: where no module and no
-- tagged commit has the zero name, the text has at most 2^28 bytes, and reading meets no limit.
abbrev pub TaggedUponLaw : Type 0
TaggedUponLaw =
    (tree_of : Bytes → Flat) (base : Base) (cs : List Snapshot) (refname : Bytes) (ts : List Tag) → AreNewUpon tree_of base [] cs
    → is_ref_name refname ≡ true → has_no_zero cs ≡ true → AreTagsOf cs ts → length (tagged_changes tree_of cs refname ts) ≤ STREAM_BYTES
    → ((at : ℕ) (which : Quantity) → tagged_replay base (tagged_changes tree_of cs refname ts) ≢ Err (Limit at which))
    → IsTaggedUpon base (tagged_changes tree_of cs refname ts) cs refname ts
