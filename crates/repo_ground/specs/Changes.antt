-- What comes of a plan that is to be appended.
use Rattle.std.specs.FinMap.{is_sorted}
use Rattle.std.specs.Prelude.{◌≡◌, ◌≢◌, ◌⊎◌, ◌+◌, ⊤, T, true, List, [], ◌∷◌, ◌++◌, length, map, sum_by, Option, None, Some, Result, Ok, Err}
use Rattle.git_objects.specs.Paths.{Bytes}
use Rattle.git_objects.specs.Refs.{Refs, bytes_cmp}
use Rattle.git_objects.specs.Snapshots.{Snapshot}
use Rattle.git_objects.specs.declared.name.Name.{Name}
use Rattle.object_store.specs.Objects.{Object, find_named}
use Rattle.object_store.specs.StoredSnapshots.{snapshot_object}
use Rattle.fast_import.specs.Replaying.{setting_value}
use Rattle.fast_import.specs.Standing.{AreBlobsIn}
use Rattle.proj_io.specs.Items.{Stays, Gets}
use Rattle.proj_io.specs.Views.{KeeperView}
use Rattle.proj_io.specs.declared.keeper.KeepError.{KeepError}
use Rattle.proj_io.specs.declared.keeper.KeepError.TheVariants.{Failed, OutOfMemory as NoMemory}
use Rattle.projection_laws.specs.StoredGraphs.{snapshot_named}
use Rattle.state_items.specs.Items.{Held}
use Rattle.state_items.specs.Repos.{repo}
use Rattle.tag_objects.specs.declared.tag.Tag.{Tag}
use Rattle.state_items.specs.Appending.{are_tags}
use Rattle.state_items.specs.Changes.{Plan, change_plan, held_after, objects_of, passed, plan_items, tagged_plan}
use Rattle.state_items.specs.Imported.{AreRefsTo, AreSmall, IsBrought, with_commits}
use Rattle.repo_ground.specs.Contents.{Contents, Spells, room_in}
use Rattle.repo_ground.specs.declared.commit.Batch.{Batch}
use Rattle.repo_ground.specs.declared.commit.CommitError.{CommitError}
use Rattle.repo_ground.specs.declared.commit.CommitError.TheVariants.{StoreFault, Limit, OutOfMemory}

-- ---- what a batch brings

-- names of the code stand for these commits over a store: the commit has the name, and its tree is in the store
abbrev pub AreNamedIn : List Object → List Name → List Snapshot → Type 0
AreNamedIn S [] [] = ⊤
AreNamedIn S [] (c ∷ cs) = ⊥
AreNamedIn S (n ∷ ns) [] = ⊥
AreNamedIn S (n ∷ ns) (c ∷ cs) = (snapshot_named S n.0 ≡ Some c) × (find_named S n.0 ≡ Some (snapshot_object c)) × AreNamedIn S ns cs

abbrev pub settings_of : Batch → Refs
settings_of b = map setting_value b.refs.items

-- A batch of these blobs and commits upon a state that has what is held: they are in its store, the commits are whole and of known
-- blobs, each behind its parents, all within the limits of objects; and the refs, in byte order, get commits that are there or brought.
pub record IsBatchOf (h : Held) (s : Contents) (b : Batch) (blobs : List Bytes) (cs : List Snapshot) : Type 0 where
  pub spells : Spells h s
  pub known : AreBlobsIn s.basis.store b.blobs.items blobs
  pub named : AreNamedIn s.basis.store b.commits.items cs
  pub brought : IsBrought h blobs cs
  pub small : AreSmall blobs cs
  pub sorted : T (is_sorted bytes_cmp (settings_of b))
  pub refs : AreRefsTo (with_commits (repo h).commits cs) (settings_of b)

-- what a batch adds
abbrev pub batch_plan : Held → Batch → List Bytes → List Snapshot → Plan
batch_plan h b blobs cs = change_plan h (objects_of blobs cs) (settings_of b)

-- what a batch with tags adds
abbrev pub tagged_batch_plan : Held → Batch → List Bytes → List Snapshot → List Tag → Plan
tagged_batch_plan h b blobs cs ts = tagged_plan h (objects_of blobs cs) (settings_of b) ts

-- Tags that may stand beside a batch: in byte order, of commits that are there or brought.
abbrev pub AreTagsOf : Contents → Batch → List Tag → Type 0
AreTagsOf s b ts = (h : Held) (blobs : List Bytes) (cs : List Snapshot) → IsBatchOf h s b blobs cs
    → are_tags (objects_of blobs cs ++ h.objects) None ts ≡ true

-- ---- what comes of a plan

-- The state has what the plan says, behind its items. The store and all else that is no part of the plan are as they were, but for the
-- ground's map and the filter that is selected, of which nothing is said.
pub record IsAppended (h : Held) (p : Plan) (before after : Contents) : Type 0 where
  pub within : passed h (room_in before) p ≡ None
  pub spells : Spells (held_after h p) after
  pub number : after.number ≡ before.number + length (plan_items p)
  pub size : after.size ≡ before.size + sum_by length (plan_items p)
  pub store : after.basis.store ≡ before.basis.store
  pub tables : after.basis.tables ≡ before.basis.tables
  pub memo : after.basis.memo ≡ before.basis.memo
  pub true_maps : after.basis.true_maps ≡ before.basis.true_maps

-- The state has what the plan says, and the same filter is selected with the same map.
pub record IsCommitted (h : Held) (p : Plan) (before after : Contents) : Type 0 where
  pub appended : IsAppended h p before after
  pub map : after.basis.map ≡ before.basis.map
  pub selected : after.selected ≡ before.selected

-- The state has what a plan of a rule says. Where the plan has an item, no filter is selected any more and the ground's map has nothing;
-- where it has none, nothing has changed.
pub record IsRuleSet (h : Held) (p : Plan) (before after : Contents) : Type 0 where
  pub appended : IsAppended h p before after
  pub none : plan_items p ≢ [] → after.selected ≡ None
  pub empty : plan_items p ≢ [] → after.basis.map ≡ []
  pub same : plan_items p ≡ [] → after ≡ before

-- Why a plan is refused: the first limit that it passes, or want of memory, and then the state is as before. After a fault of the
-- keeper the state is of no more use.
abbrev pub IsRefused : Held → Plan → Contents → Contents → CommitError → Type 0
IsRefused h p before after StoreFault = (plan_items p ≢ []) × (passed h (room_in before) p ≡ None)
IsRefused h p before after (Limit q) = (after ≡ before) × (passed h (room_in before) p ≡ Some q)
IsRefused h p before after OutOfMemory = after ≡ before

-- ---- the keeper

abbrev pub KeepsItems : KeeperView → KeeperView → Type 0
KeepsItems before after = (after.number ≡ before.number) × Stays before.items after.items

-- it gets these items, which are none or one
abbrev pub GetsItems : List Bytes → KeeperView → KeeperView → Type 0
GetsItems [] before after = KeepsItems before after
GetsItems (item ∷ more) before after = (after.number ≡ before.number + 1) × Gets before.items after.items item

-- it gets the plan's item, or none where the plan has none; after a fault it may have it or not
abbrev pub Appends : Plan → KeeperView → KeeperView → Result (Unit {0}) CommitError → Type 0
Appends p before after (Ok _) = GetsItems (plan_items p) before after
Appends p before after (Err StoreFault) = KeepsItems before after ⊎ GetsItems (plan_items p) before after
Appends p before after (Err (Limit q)) = KeepsItems before after
Appends p before after (Err OutOfMemory) = KeepsItems before after

-- what a stop while a plan is appended leaves of the items of a keeper that tells them: these, or these with the item of a plan
-- that passes no limit
abbrev pub IsStopOf : Held → Contents → Plan → Option (List Bytes) → List Bytes → Type 0
IsStopOf h s p None list = ⊤
IsStopOf h s p (Some items) list = (list ≡ items) ⊎ ((passed h (room_in s) p ≡ None) × (list ≡ items ++ plan_items p))

-- the plan was refused, and the keeper has no item more
abbrev pub IsRefusal : Result (Unit {0}) CommitError → Type 0
IsRefusal (Ok _) = ⊥
IsRefusal (Err StoreFault) = ⊥
IsRefusal (Err (Limit q)) = ⊤
IsRefusal (Err OutOfMemory) = ⊤

-- why the keeper has no item more
abbrev pub keep_error : KeepError → CommitError
keep_error Failed = StoreFault
keep_error NoMemory = OutOfMemory

-- a keeping that was refused, as a change that was
abbrev pub keep_error_result : Result (Unit {0}) KeepError → Result (Unit {0}) CommitError
keep_error_result (Ok u) = Ok u
keep_error_result (Err e) = Err (keep_error e)
