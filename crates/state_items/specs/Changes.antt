-- What a command adds to a state: the item that says it, what is held then, and the limits.
use Rattle.std.specs.Prelude.{ℕ, ◌+◌, Bool, true, false, not, ◌&&◌, ◌==◌, nat_le, if◌then◌else◌, List, [], ◌∷◌, ◌++◌, length, filter, fold, map, reverse, sum_by, Option, Some, None}
use Rattle.std.specs.List.{flat_map}
use Rattle.std.specs.Option.{option_map_or}
use Rattle.std.specs.FinMap.{find, put as put_entry}
use Rattle.git_objects.specs.declared.limits.TheConstants.{COMMITS, OBJECTS, ITEM_BYTES, ITEMS, STORE_BYTES}
use Rattle.git_objects.specs.Paths.{Bytes, is_nil, same_bytes}
use Rattle.git_objects.specs.Refs.{Refs, bytes_cmp}
use Rattle.git_objects.specs.Snapshots.{Snapshot}
use Rattle.git_objects.specs.declared.kind.Kind.TheVariants.{Blob}
use Rattle.git_objects.specs.declared.quantity.Quantity.{Quantity}
use Rattle.git_objects.specs.declared.quantity.Quantity.TheVariants as limits
use Rattle.object_store.specs.Objects.{Object, object_name, has_name}
use Rattle.object_store.specs.Fits.{is_commit}
use Rattle.object_store.specs.StoredSnapshots.{snapshot_object}
use Rattle.object_store.specs.TreeObjects.{tree_objects}
use Rattle.commit_map.specs.Shown.{Shown}
use Rattle.tag_objects.specs.TagLists.{changed, with_tags}
use Rattle.tag_objects.specs.declared.tag.Tag.{Tag}
use Rattle.state_items.specs.Items.{Held, Kept, change_text, kept_text, rule_text, tagged_change_text}

-- ---- objects

abbrev pub blob_object : Bytes → Object
blob_object b = record { kind = Blob; body = b }

-- a commit's tree, each object after those that it names, and then the commit
abbrev pub commit_objects : Snapshot → List Object
commit_objects c = tree_objects c.tree ++ snapshot_object c ∷ []

-- the blobs in order, and then commit by commit
abbrev pub objects_of : List Bytes → List Snapshot → List Object
objects_of blobs cs = map blob_object blobs ++ flat_map commit_objects cs

-- those that aren't held, each once
unfoldable pub fresh : List Object → List Object → List Object
fresh S [] = []
fresh S (o ∷ os) = if has_name S (object_name o) then fresh S os else o ∷ fresh (o ∷ S) os

-- ---- refs

-- each set in turn
abbrev pub with_refs : Refs → Refs → Refs
with_refs refs es = fold (λ m e. put_entry bytes_cmp e.0 e.1 m) refs es

-- whether a ref gets another commit
abbrev pub is_moved : Refs → Bytes × Bytes → Bool
is_moved refs e = not (option_map_or (same_bytes e.1) (find bytes_cmp e.0 refs) false)

-- those, in the byte order of the refs
abbrev pub moved : Refs → Refs → Refs
moved refs es = filter (is_moved refs) (with_refs [] es)

-- ---- plans

-- what a command adds to a state: nothing; objects and refs; a rule; projections that it keeps, for a filter's text and a rule; or
-- objects, refs, and tags that change, one at least
pub data Plan : Type 0 where
  NoPlan : Plan
  ChangePlan : List Object → Refs → Plan
  RulePlan : ℕ → Plan
  KeepPlan : ℕ → Bytes → List (Bytes × Option Shown) → Plan
  TagPlan : List Object → Refs → List Tag → Plan

-- these objects and refs, if there are any
abbrev pub plan_of : List Object → Refs → Plan
plan_of objects refs = if is_nil objects && is_nil refs then NoPlan else ChangePlan objects refs

-- the objects that aren't held and the refs that move
abbrev pub change_plan : Held → List Object → Refs → Plan
change_plan h objects refs = plan_of (fresh h.objects objects) (moved h.refs refs)

-- without tags that change it is a change
abbrev pub plan_with : List Object → Refs → List Tag → Plan
plan_with objects refs [] = plan_of objects refs
plan_with objects refs (t ∷ ts) = TagPlan objects refs (t ∷ ts)

-- the objects that aren't held, the refs that move, and the tags that change
abbrev pub tagged_plan : Held → List Object → Refs → List Tag → Plan
tagged_plan h objects refs tags = plan_with (fresh h.objects objects) (moved h.refs refs) (changed h.tags tags)

-- a rule that isn't the state's
abbrev pub rule_plan : Held → ℕ → Plan
rule_plan h k = if h.rule == k then NoPlan else RulePlan k

-- its item, if it has one
abbrev pub plan_items : Plan → List Bytes
plan_items NoPlan = []
plan_items (ChangePlan objects refs) = change_text objects refs ∷ []
plan_items (RulePlan k) = rule_text k ∷ []
plan_items (KeepPlan k text es) = kept_text k text es ∷ []
plan_items (TagPlan objects refs tags) = tagged_change_text objects refs tags ∷ []

abbrev pub entry_of : ℕ → Bytes → Bytes × Option Shown → Kept
entry_of k text e = record { filter = text; rule = k; original = e.0; result = e.1 }

-- the objects are held from the newest to the oldest
abbrev pub held_after : Held → Plan → Held
held_after h NoPlan = h
held_after h (ChangePlan objects refs) = record h { objects = reverse objects ++ h.objects; refs = with_refs h.refs refs }
held_after h (RulePlan k) = record h { rule = k }
held_after h (KeepPlan k text es) = record h { kept = h.kept ++ map (entry_of k text) es }
held_after h (TagPlan objects refs tags) =
    record h { objects = reverse objects ++ h.objects; refs = with_refs h.refs refs; tags = with_tags h.tags tags }

-- ---- limits

-- how many items there are, and their bytes together
pub record Room : Type 0 where
  pub number : ℕ
  pub size : ℕ

abbrev pub room_of : List Bytes → Room
room_of items = record { number = length items; size = sum_by length items }

abbrev pub or_else : Bool → Quantity → Option Quantity → Option Quantity
or_else true q later = later
or_else false q later = Some q

-- at most 2^20 commits and 2^22 objects, in this order
abbrev pub passed_by_objects : List Object → Option Quantity → Option Quantity
passed_by_objects S later =
    or_else (nat_le (length (filter is_commit S)) COMMITS) limits.Commits (or_else (nat_le (length S) OBJECTS) limits.Objects later)

-- the first limit that is passed by one item more
abbrev pub passed_by_item : Room → Bytes → Option Quantity
passed_by_item room item =
    or_else (nat_le (length item) ITEM_BYTES) limits.Item
    (or_else (nat_le (room.number + 1) ITEMS) limits.Items
    (or_else (nat_le (room.size + length item) STORE_BYTES) limits.Store None))

abbrev pub passed_by_items : Room → List Object → List Bytes → Option Quantity
passed_by_items room S [] = None
passed_by_items room S (item ∷ items) = passed_by_objects S (passed_by_item room item)

-- the first limit of the state that a plan passes; none of them is asked where it has no item
abbrev pub passed : Held → Room → Plan → Option Quantity
passed h room p = passed_by_items room (held_after h p).objects (plan_items p)
