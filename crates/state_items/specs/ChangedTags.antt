-- How the tags that change, and the first whose name is taken, are found: both lists rise, so one walk along them is
-- enough.
use Rattle.std.specs.Prelude.{Bool, true, false, not, ◌&&◌, if◌then◌else◌, List, [], ◌∷◌}
use Rattle.std.specs.Ordering.{is_lt}
use Rattle.git_objects.specs.Paths.{Bytes, same_bytes}
use Rattle.git_objects.specs.Refs.{bytes_cmp}
use Rattle.tag_objects.specs.TagLists.{says_same}
use Rattle.tag_objects.specs.declared.tag.Tag.{Tag}

-- the tags from the first on whose name isn't below that one
abbrev pub from_name : Bytes → List Tag → List Tag
from_name n [] = []
from_name n (u ∷ us) = if is_lt (bytes_cmp u.name n) then from_name n us else u ∷ us

-- whether the first of these has another name or says something else
abbrev pub is_new : List Tag → Tag → Bool
is_new [] t = true
is_new (u ∷ us) t = not (same_bytes u.name t.name && says_same t u)

-- whether the first of these has the tag's name and says something else
abbrev pub has_other : List Tag → Tag → Bool
has_other [] t = false
has_other (u ∷ us) t = same_bytes u.name t.name && not (says_same t u)
