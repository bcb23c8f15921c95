-- What is worked out before an item is written.
use Rattle.std.specs.Prelude.{ℕ, ◌+◌, List, [], ◌∷◌, ◌++◌, length, nat_le, if◌then◌else◌, map, Option, Some, None}
use Rattle.std.specs.Int.{to_be_bytes, w32}
use Rattle.std.specs.List.{flat_map}
use Rattle.std.specs.Option.{is_some, option_to_list, unwrap_or}
use Rattle.git_objects.specs.declared.limits.TheConstants.{COMMITS, OBJECTS, ITEM_BYTES, ITEMS, STORE_BYTES}
use Rattle.git_objects.specs.Paths.{Bytes}
use Rattle.git_objects.specs.Parts.{name_bytes}
use Rattle.git_objects.specs.Refs.{Refs}
use Rattle.git_objects.specs.declared.name.Name.{Name}
use Rattle.git_objects.specs.declared.quantity.Quantity.{Quantity}
use Rattle.git_objects.specs.declared.quantity.Quantity.TheVariants as limits
use Rattle.object_store.specs.Objects.{Object, find_named}
use Rattle.state_items.specs.Changes.{or_else}
use Rattle.tag_objects.specs.declared.tag.Tag.{Tag}
use Rattle.state_items.specs.Items.{kind_byte, ref_text, tag_item_text}

-- the objects of these names
abbrev pub objects_named : List Object → List Bytes → List Object
objects_named S [] = []
objects_named S (n ∷ names) = option_to_list (find_named S n) ++ objects_named S names

abbrev pub found : List Object → List Name → List Object
found S names = objects_named S (map name_bytes names)

-- an item's length, where it is within the limit
abbrev pub sized : ℕ → Option ℕ
sized n = if nat_le n ITEM_BYTES then Some n else None

-- the first limit that is passed, by the numbers of commits and objects, the item's length, and the items before
abbrev pub first_passed : ℕ → ℕ → Option ℕ → ℕ → ℕ → Option Quantity
first_passed commits objects item number size =
    or_else (nat_le commits COMMITS) limits.Commits
    (or_else (nat_le objects OBJECTS) limits.Objects
    (or_else (is_some item) limits.Item
    (or_else (nat_le (number + 1) ITEMS) limits.Items
    (or_else (nat_le (size + unwrap_or item 0) STORE_BYTES) limits.Store None))))

-- what stands before the body of an object: its kind and its length
abbrev pub object_head : Object → Bytes
object_head o = kind_byte o.kind ∷ to_be_bytes w32 (length o.body)

-- the bytes of an item but for the bodies of its objects
unfoldable pub heads_text : List Object → Refs → Bytes
heads_text objects refs =
    1 ∷ 1 ∷ (to_be_bytes w32 (length objects) ++ flat_map object_head objects ++ to_be_bytes w32 (length refs) ++ flat_map ref_text refs)

-- the bytes of an item with tags but for the bodies of its objects
unfoldable pub tagged_heads_text : List Object → Refs → List Tag → Bytes
tagged_heads_text objects refs tags =
    2 ∷ 4 ∷ (to_be_bytes w32 (length objects) ++ flat_map object_head objects ++ to_be_bytes w32 (length refs) ++ flat_map ref_text refs
    ++ to_be_bytes w32 (length tags) ++ flat_map tag_item_text tags)

-- the bytes of an item of objects and refs, and of these tags where there are any, but for the bodies of its objects
abbrev pub heads_with : List Object → Refs → List Tag → Bytes
heads_with objects refs [] = heads_text objects refs
heads_with objects refs (t ∷ ts) = tagged_heads_text objects refs (t ∷ ts)
