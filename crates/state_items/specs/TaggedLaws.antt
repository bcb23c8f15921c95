-- What a change with tags means, and what items without tags leave.
use Rattle.std.specs.Prelude.{◌≡◌, ◌&&◌, ◌==◌, Bool, true, false, List, [], ◌∷◌, ◌++◌, None, Ok}
use Rattle.std.specs.List.{list_any}
use Rattle.std.specs.Option.{option_or}
use Rattle.git_objects.specs.Paths.{Bytes}
use Rattle.git_objects.specs.Refs.{Refs}
use Rattle.git_objects.specs.Snapshots.{Snapshot}
use Rattle.object_store.specs.Objects.{Object}
use Rattle.tag_objects.specs.TagLists.{changed, rise, tag_named, with_tags}
use Rattle.tag_objects.specs.declared.tag.Tag.{Tag}
use Rattle.state_items.specs.Appending.{IsAddition, are_tags}
use Rattle.state_items.specs.Changes.{change_plan, held_after, objects_of, tagged_plan}
use Rattle.state_items.specs.Imported.{AreRefsTo, AreSmall, IsBrought, with_commits}
use Rattle.state_items.specs.Items.{Held, read_items}
use Rattle.state_items.specs.Repos.{repo}

-- whether an item may bring tags, by its first two bytes
abbrev pub has_tags : Bytes → Bool
has_tags [] = false
has_tags (f ∷ []) = false
has_tags (f ∷ k ∷ rest) = f == 2 && k == 4

-- Items without tags hold none.
abbrev pub OldItemsLaw : Type 0
OldItemsLaw = (items : List Bytes) (h : Held) → list_any has_tags items ≡ false → read_items items ≡ Ok h → h.tags ≡ []

-- A change with tags means for all but the tags what the change means without them. Of the tags a name that was brought has its tag
-- then, and each other name the tag that it had; and their names rise.
pub record TaggedLaw : Type 0 where
  pub same : (h : Held) (objects : List Object) (refs : Refs) (ts : List Tag)
      → held_after h (tagged_plan h objects refs ts)
      ≡ record (held_after h (change_plan h objects refs)) { tags = with_tags h.tags (changed h.tags ts) }
  pub value : (h : Held) (objects : List Object) (refs : Refs) (ts : List Tag) (n : Bytes) → rise None ts ≡ true
      → tag_named n (held_after h (tagged_plan h objects refs ts)).tags ≡ option_or (tag_named n ts) (tag_named n h.tags)
  pub order : (h : Held) (objects : List Object) (refs : Refs) (ts : List Tag) → rise None h.tags ≡ true
      → rise None (held_after h (tagged_plan h objects refs ts)).tags ≡ true

-- A change that brings whole commits, within the limits of objects, and tags of commits that are held or brought, may be added.
abbrev pub TaggedChangeLaw : Type 0
TaggedChangeLaw = (h : Held) (blobs : List Bytes) (cs : List Snapshot) (refs : Refs) (ts : List Tag) → IsBrought h blobs cs
    → AreSmall blobs cs → AreRefsTo (with_commits (repo h).commits cs) refs
    → are_tags (objects_of blobs cs ++ h.objects) None ts ≡ true
    → IsAddition h (tagged_plan h (objects_of blobs cs) refs ts)
