-- What the tags of a stream are.
use Rattle.std.specs.Prelude.{◌≡◌, ◌≤◌, true, List, ◌++◌, length, map, None, Ok}
use Rattle.std.specs.Option.{is_some}
use Rattle.git_objects.specs.Idents.{is_ident}
use Rattle.git_objects.specs.Lists.{Each}
use Rattle.git_objects.specs.Paths.{Bytes}
use Rattle.git_objects.specs.Snapshots.{Snapshot}
use Rattle.git_objects.specs.declared.limits.TheConstants.{MESSAGE_BYTES}
use Rattle.tag_objects.specs.TagLists.{rise}
use Rattle.tag_objects.specs.TagNames.{is_tag_name}
use Rattle.tag_objects.specs.declared.tag.Tag.{Tag}
use Rattle.fast_import.specs.Replays.{Base, TaggedReplayed, named_tree, tagged_replay, value_at}

-- A tag of a commit that is one of these or was there before the stream, with a tag's name, an ident, and a message within its
-- limit.
pub record IsReplayedTag (base : Base) (commits : List Snapshot) (t : Tag) : Type 0 where
  pub name : is_tag_name t.name ≡ true
  pub target : is_some (value_at t.target.0 (map named_tree commits ++ base.commits)) ≡ true
  pub tagger : is_ident t.tagger ≡ true
  pub message : length t.message ≤ MESSAGE_BYTES

-- tags whose names rise strictly in byte order
pub record AreReplayedTags (base : Base) (commits : List Snapshot) (tags : List Tag) : Type 0 where
  pub order : rise None tags ≡ true
  pub each : Each (IsReplayedTag base commits) tags

-- what the tags are that a stream gives beside its commits
abbrev pub ReplayedTagsLaw : Type 0
ReplayedTagsLaw = (base : Base) (all : Bytes) (g : TaggedReplayed) → tagged_replay base all ≡ Ok g → AreReplayedTags base g.replayed.commits g.tags
