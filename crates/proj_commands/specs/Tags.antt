-- The query `tags`: the annotated tags that are shown beside the projected history of a ref's commit.
use Rattle.std.specs.List.{filter_map, flat_map}
use Rattle.std.specs.Option.{option_map}
use Rattle.std.specs.Prelude.{if◌then◌else◌, List, [], ◌∷◌, Option, None}
use Rattle.git_objects.specs.Paths.{Bytes}
use Rattle.git_objects.specs.Snapshots.{ancestors, has}
use Rattle.filter_text.specs.Filters.{Filter}
use Rattle.state_items.specs.Items.{Held}
use Rattle.state_items.specs.Repos.{repo}
use Rattle.tag_objects.specs.declared.tag.Tag.{Tag}
use Rattle.proj_commands.specs.Filters.{projected}
use Rattle.proj_commands.specs.Lines.{tag_line}

-- the tag of another commit
abbrev pub retargeted : Tag → Bytes → Tag
retargeted t n = record t { target = record { 0 = n } }

-- where there is one
abbrev pub retargeted_one : Tag × Option Bytes → Option Tag
retargeted_one e = option_map (retargeted e.0) e.1

-- what a commit that is held is projected to, where it is the commit n or one before it
abbrev pub shown_before : Held → Filter → Bytes → Bytes → Option Bytes
shown_before h f n m = if has (ancestors (repo h).commits n) m then option_map (λ s. s.commit) (projected h f m) else None

-- a tag of the commit n or of one before it, with the projection of its commit, if it has one
abbrev pub shown_tag : Held → Filter → Bytes → Tag → Option Tag
shown_tag h f n t = retargeted_one (t, shown_before h f n t.target.0)

-- those of the state, in the byte order of their names
abbrev pub shown_tags : Held → Filter → Bytes → List Tag
shown_tags h f n = filter_map (shown_tag h f n) h.tags

abbrev pub tags_text : Held → Filter → Bytes → Bytes
tags_text h f n = flat_map tag_line (shown_tags h f n)
