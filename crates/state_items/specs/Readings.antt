-- What is read of items, and that it is what they hold.
use Rattle.std.specs.Prelude.{◌≡◌, ℕ, true, List, [], None, map, reverse}
use Rattle.git_objects.specs.Paths.{Bytes}
use Rattle.git_objects.specs.Refs.{Refs}
use Rattle.object_store.specs.Filling.{written}
use Rattle.object_store.specs.Objects.{Object, object_name, IsStore}
use Rattle.commit_graph.specs.Graphs.{Row}
use Rattle.ref_store.specs.Refs.{AreDistinct}
use Rattle.tag_objects.specs.TagLists.{rise}
use Rattle.tag_objects.specs.declared.tag.Tag.{Tag}
use Rattle.state_items.specs.Items.{ItemKind, ChangeItem, OldKeptItem, KeptItem, RuleItem, TagItem, Held, has_room}
use Rattle.state_items.specs.Changes.{with_refs}
use Rattle.state_items.specs.Arrivals.{blobs_of, rows_of}
use Rattle.state_items.specs.KeptMaps.{RuleMaps, AreKept}
use Rattle.state_items.specs.Steps.{Parts, are_heads}
use Rattle.state_items.specs.declared.reading.ItemKind.{ItemKind as DeclaredKind}
use Rattle.state_items.specs.declared.reading.ItemKind.TheVariants as declared

-- What items have given so far: the objects from the newest to the oldest; in order of arrival their names, the commits, the names of
-- the blobs, and the refs; the maps of kept projections; the rule; the tags in the byte order of their names. Behind them is the piece
-- that is to be read.
pub record Gathered : Type 0 where
  pub objects : List Object
  pub names : List Bytes
  pub rows : List Row
  pub blobs : List Bytes
  pub refs : Refs
  pub maps : RuleMaps
  pub rule : ℕ
  pub tags : List Tag
  pub piece : Bytes

-- what is held was gathered
pub record Holds (h : Held) (v : Gathered) : Type 0 where
  pub store : IsStore h.objects
  pub room : has_room h.objects ≡ true
  pub objects : v.objects ≡ h.objects
  pub names : v.names ≡ reverse (map object_name h.objects)
  pub graph : v.rows ≡ rows_of h.objects
  pub known : v.blobs ≡ blobs_of h.objects
  pub distinct : AreDistinct v.refs
  pub refs : with_refs [] v.refs ≡ h.refs
  pub heads : are_heads h.objects h.refs ≡ true
  pub kept : AreKept v.maps h.kept
  pub rule : v.rule ≡ h.rule
  pub tags : v.tags ≡ h.tags
  pub rising : rise None h.tags ≡ true

-- something is held that was gathered: so it is as long as no item was broken
abbrev pub HoldsSomething : Gathered → Type 0
HoldsSomething v = (h : Held) × Holds h v

abbrev pub with_piece : Gathered → Bytes → Gathered
with_piece v piece = record v { piece = piece }

abbrev pub with_written : Gathered → Bytes → Gathered
with_written v bytes = with_piece v (written v.piece bytes)

-- the parts that an item changes
abbrev pub parts_of : List Object → Refs → RuleMaps → ℕ → List Tag → Parts
parts_of S refs maps rule tags = record { objects = S; refs = with_refs [] refs; maps = maps; rule = rule; tags = tags }

abbrev pub kind_value : DeclaredKind → ItemKind
kind_value declared.Change = ChangeItem
kind_value declared.OldKept = OldKeptItem
kind_value declared.Kept = KeptItem
kind_value declared.NewRule = RuleItem
kind_value declared.Tagged = TagItem
