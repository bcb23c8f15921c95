-- What a state has of what items hold.
use Rattle.std.specs.Prelude.{◌≡◌, ◌≤◌, ℕ, Bool, true, false, ◌&&◌, ◌==◌, List, [], map, reverse, take, length, if◌then◌else◌, sum_by, Contains, Option, Some, None, Ok}
use Rattle.git_objects.specs.Paths.{Bytes, same_bytes}
use Rattle.git_objects.specs.Refs.{Refs}
use Rattle.object_store.specs.Objects.{Object, IsStore, find_named, object_name}
use Rattle.ref_store.specs.Refs.{AreDistinct}
use Rattle.commit_map.specs.Rules.{rule_number}
use Rattle.commit_map.specs.Shown.{Entries, kept_at}
use Rattle.projection_ground.specs.declared.ground.Ground.{Ground}
use Rattle.tag_objects.specs.TagLists.{rise}
use Rattle.tag_objects.specs.declared.tag.Tag.{Tag}
use Rattle.state_items.specs.Arrivals.{blobs_of, rows_of}
use Rattle.state_items.specs.Changes.{Room, with_refs}
use Rattle.state_items.specs.Items.{Held, has_room, is_rule, read_items}
use Rattle.state_items.specs.KeptMaps.{RuleMaps, entries_at, entries_for}
use Rattle.state_items.specs.Steps.{are_heads}

-- What a state is seen as. Names stand in order of arrival, and tags in the byte order of their names. The ground's map is that of the filter with the selected text under the
-- rule of the selected number; its first entries, so many as are kept, are held by items.
pub record Contents : Type 0 where
  pub basis : Ground
  pub refs : Refs
  pub blobs : List Bytes
  pub names : List Bytes
  pub tags : List Tag
  pub maps : RuleMaps
  pub selected : Option (Bytes × ℕ)
  pub kept : ℕ
  pub number : ℕ
  pub size : ℕ

-- whether that text is selected, under the rule of that number
abbrev pub is_selected : Option (Bytes × ℕ) → Bytes → ℕ → Bool
is_selected None text rule = false
is_selected (Some s) text rule = same_bytes s.0 text && s.1 == rule

-- the entries of a text and a rule that items hold
abbrev pub entries_in : Contents → Bytes → ℕ → Entries
entries_in s text rule = if is_selected s.selected text rule then take s.kept s.basis.map else entries_at rule text s.maps

-- the state has what items hold
pub record Spells (h : Held) (s : Contents) : Type 0 where
  pub store : IsStore h.objects
  pub room : has_room h.objects ≡ true
  pub within : (o : Object) → Contains h.objects o → find_named s.basis.store (object_name o) ≡ Some o
  pub names : s.names ≡ reverse (map object_name h.objects)
  pub graph : s.basis.graph ≡ rows_of h.objects
  pub known : s.blobs ≡ blobs_of h.objects
  pub distinct : AreDistinct s.refs
  pub refs : with_refs [] s.refs ≡ h.refs
  pub heads : are_heads h.objects h.refs ≡ true
  -- of each commit what is kept, in whatever order
  pub entries : (text : Bytes) (rule : ℕ) (n : Bytes) → is_rule rule ≡ true
      → kept_at n (entries_in s text rule) ≡ kept_at n (entries_for text rule h.kept)
  pub few : s.kept ≤ length s.basis.map
  pub rule : rule_number s.basis.rule ≡ h.rule
  pub tags : s.tags ≡ h.tags
  pub rising : rise None h.tags ≡ true

abbrev pub SpellsSomething : Contents → Type 0
SpellsSomething s = (h : Held) × Spells h s

-- how many items there are, and their bytes together
abbrev pub room_in : Contents → Room
room_in s = record { number = s.number; size = s.size }

-- the items spell what is held, and are as many and as long as the state has read or appended
pub record IsCurrent (items : List Bytes) (h : Held) (s : Contents) : Type 0 where
  pub read : read_items items ≡ Ok h
  pub number : s.number ≡ length items
  pub size : s.size ≡ sum_by length items
