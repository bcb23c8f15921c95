-- What is exported with tags is read again.
use Rattle.std.specs.Prelude.{◌≡◌, ◌≢◌, ◌≤◌, ℕ, true, false, List, ◌++◌, [], length, map, replicate, None, Ok, Err}
use Rattle.git_objects.specs.Idents.{is_ident}
use Rattle.git_objects.specs.Lists.{Each}
use Rattle.git_objects.specs.Paths.{Bytes, same_bytes}
use Rattle.git_objects.specs.Snapshots.{Snapshot, snapshot_name}
use Rattle.git_objects.specs.declared.limits.TheConstants.{STREAM_BYTES}
use Rattle.git_objects.specs.declared.quantity.Quantity.{Quantity}
use Rattle.path_names.specs.RefNames.{is_ref_name}
use Rattle.stream_reader.specs.declared.fault.StreamFault.TheVariants.{Limit}
use Rattle.tag_objects.specs.TagLists.{rise}
use Rattle.tag_objects.specs.TagNames.{is_tag_name}
use Rattle.tag_objects.specs.Tags.{tags_text}
use Rattle.tag_objects.specs.declared.tag.Tag.{Tag}
use Rattle.fast_import.specs.Replays.{TaggedReplayed, empty_base, tagged_replay}
use Rattle.fast_export.specs.ExportTexts.{export_text, is_among}
use Rattle.fast_export.specs.Laws.{IsHistory, has_no_zero, head_at_last}

-- a tag of one of these commits, whose name isn't all zero
pub record IsTagOf (cs : List Snapshot) (t : Tag) : Type 0 where
  pub name : is_tag_name t.name ≡ true
  pub tagger : is_ident t.tagger ≡ true
  pub target : is_among t.target.0 (map snapshot_name cs) ≡ true
  pub some : same_bytes t.target.0 (replicate 20 0) ≡ false

-- in byte order, one of each name
pub record AreTagsOf (cs : List Snapshot) (ts : List Tag) : Type 0 where
  pub order : rise None ts ≡ true
  pub each : Each (IsTagOf cs) ts

-- the text of an export, and the commands of tags behind it
abbrev pub tagged_text : List Snapshot → Bytes → List Tag → Bytes
tagged_text cs refname ts = export_text cs refname ++ tags_text ts

-- these commits, with their parents and so with their names, the ref at the last, and these tags, so that their objects have
-- the same names
pub record IsTaggedAgain (cs : List Snapshot) (refname : Bytes) (ts : List Tag) : Type 0 where
  pub given : TaggedReplayed
  pub read : tagged_replay empty_base (tagged_text cs refname ts) ≡ Ok given
  pub commits : given.replayed.commits ≡ cs
  pub heads : given.replayed.heads ≡ head_at_last refname cs
  pub tags : given.tags ≡ ts

-- What is exported with tags is read again as the same commits, ref and tags: where no module and no tagged commit has the zero
-- name, the text has at most 2^28 bytes, and reading meets no limit.
abbrev pub TaggedAgainLaw : Type 0
TaggedAgainLaw =
    (cs : List Snapshot) (refname : Bytes) (ts : List Tag) → IsHistory [] cs → is_ref_name refname ≡ true → has_no_zero cs ≡ true → AreTagsOf cs ts
    → length (tagged_text cs refname ts) ≤ STREAM_BYTES
    → ((at : ℕ) (which : Quantity) → tagged_replay empty_base (tagged_text cs refname ts) ≢ Err (Limit at which))
    → IsTaggedAgain cs refname ts
