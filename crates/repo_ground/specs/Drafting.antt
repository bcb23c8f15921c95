-- What is worked out for an item, and what is said of appending it.
use Rattle.std.specs.Prelude.{◌≡◌, ◌≢◌, ◌⊎◌, ◌+◌, ◌<◌, ◌≤◌, ⊤, List, [], ◌∷◌, ℕ, length, sum_by, take, Option, None, Some, Result, Ok, Err}
use Rattle.std.specs.Global.{Vec}
use Rattle.git_objects.specs.Paths.{Bytes}
use Rattle.git_objects.specs.declared.limits.TheConstants.{ITEMS, STORE_BYTES}
use Rattle.git_objects.specs.declared.quantity.Quantity.{Quantity}
use Rattle.object_store.specs.Objects.{Object}
use Rattle.proj_io.specs.Views.{KeeperView}
use Rattle.proj_io.specs.declared.keeper.KeepError.{KeepError}
use Rattle.proj_io.specs.declared.keeper.KeepError.TheVariants.{Failed, OutOfMemory as NoMemory}
use Rattle.state_items.specs.Changes.{passed_by_item, passed_by_objects}
use Rattle.projection_ground.specs.Grounds.{IsGround}
use Rattle.state_items.specs.Changes.{NoPlan, Plan, held_after, passed, plan_items}
use Rattle.state_items.specs.Items.{Held}
use Rattle.tag_objects.specs.declared.tag.Tag.{Tag}
use Rattle.repo_ground.specs.Changes.{GetsItems, KeepsItems}
use Rattle.repo_ground.specs.Contents.{Contents, Spells, room_in}
use Rattle.repo_ground.specs.Entering.{IsFront}
use Rattle.repo_ground.specs.declared.commit.CommitError.{CommitError}
use Rattle.repo_ground.specs.declared.draft.Draft.{Draft}
use Rattle.repo_ground.specs.declared.commit.CommitError.TheVariants.{StoreFault, Limit, OutOfMemory}

-- the first limit that is passed where these objects are held, with an item of that text behind so many items and bytes
abbrev pub passed_with : List Object → ℕ → ℕ → Bytes → Option Quantity
passed_with S number size text = passed_by_objects S (passed_by_item (record { number = number; size = size }) text)

-- an item's length where no limit is passed, or the limit that is passed first
abbrev pub IsSizeOf : Option Quantity → Bytes → Result ℕ Quantity → Type 0
IsSizeOf passed text (Ok size) = (passed ≡ None) × (size ≡ length text)
IsSizeOf passed text (Err q) = passed ≡ Some q

-- it gets an item of these bytes; after a fault it may have it or not
abbrev pub Adds : Bytes → KeeperView → KeeperView → Result (Unit {0}) KeepError → Type 0
Adds text before after (Ok _) = GetsItems (text ∷ []) before after
Adds text before after (Err Failed) = KeepsItems before after ⊎ GetsItems (text ∷ []) before after
Adds text before after (Err NoMemory) = KeepsItems before after

-- names, blobs and commits behind those that were there; all else is as it was
pub record HasMore (before after : Contents) : Type 0 where
  pub names : IsFront before.names after.names
  pub blobs : IsFront before.blobs after.blobs
  pub commits : IsFront before.basis.graph after.basis.graph
  pub same : after ≡ record before {
    basis = record before.basis { graph = after.basis.graph };
    blobs = after.blobs;
    names = after.names;
  }

-- the first names, blobs and commits
abbrev pub cut_to : ℕ → ℕ → ℕ → Contents → Contents
cut_to names blobs commits s = record s {
  basis = record s.basis { graph = take commits s.basis.graph };
  blobs = take blobs s.blobs;
  names = take names s.names;
}

-- the tags behind a change, where there are others than before
abbrev pub tags_in : List Tag → Option (Vec Tag) → List Tag
tags_in tags None = tags
tags_in tags (Some after) = after.items

-- the length of a plan's one item, which passes no limit, and the refs and tags of the state that has what the plan says
pub record IsDraft (h : Held) (p : Plan) (before after : Contents) (d : Draft) : Type 0 where
  pub fits : passed h (room_in before) p ≡ None
  pub one : length (plan_items p) ≡ 1
  pub size : d.size ≡ sum_by length (plan_items p)
  pub room : (after.number < ITEMS) × (after.size + d.size ≤ STORE_BYTES)
  pub spells : Spells (held_after h p) (record after { refs = d.refs; tags = tags_in after.tags d.tags })
  pub ground : IsGround after.basis

-- the state with the refs and tags of a draft and one item more
abbrev pub with_draft : Contents → Draft → Contents
with_draft s d = record s { refs = d.refs; tags = tags_in s.tags d.tags; number = s.number + 1; size = s.size + d.size }

-- the same, or nothing where the plan has no item
abbrev pub IsDraftOrNot : Held → Plan → Contents → Contents → Option Draft → Type 0
IsDraftOrNot h p before after None = (p ≡ NoPlan) × (after ≡ before)
IsDraftOrNot h p before after (Some d) = IsDraft h p before after d

-- why there is no draft: a fault of the keeper, which was given the plan's item; the first limit that is passed; or want of memory
abbrev pub IsNoDraft : Held → Plan → Contents → CommitError → Type 0
IsNoDraft h p before StoreFault = (plan_items p ≢ []) × (passed h (room_in before) p ≡ None)
IsNoDraft h p before (Limit q) = passed h (room_in before) p ≡ Some q
IsNoDraft h p before OutOfMemory = ⊤

-- whether a draft was made or why not, without what it is
abbrev pub outcome : Result (Option Draft) CommitError → Result (Unit {0}) CommitError
outcome (Ok d) = Ok tt
outcome (Err e) = Err e
