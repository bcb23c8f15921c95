-- Items stay Kept under each plan.
use Rattle.std.specs.Prelude.{◌≡◌, ⊤, ℕ, true, List, ◌∷◌, [], ◌++◌, All, Option, None}
use Rattle.std.specs.List.{list_all}
use Rattle.git_objects.specs.Paths.{Bytes}
use Rattle.git_objects.specs.Refs.{Refs}
use Rattle.git_objects.specs.Snapshots.{Snapshot}
use Rattle.commit_map.specs.Shown.{Shown}
use Rattle.tag_objects.specs.declared.tag.Tag.{Tag}
use Rattle.state_items.specs.Items.{Held}
use Rattle.state_items.specs.Repos.{IsKept, repo}
use Rattle.state_items.specs.Changes.{Plan, NoPlan, KeepPlan, RulePlan, change_plan, held_after, objects_of, passed, plan_items, room_of, tagged_plan}
use Rattle.state_items.specs.Appending.{IsAddition, are_tags}
use Rattle.state_items.specs.Imported.{AreRefsTo, AreSmall, AreWhole, IsBrought, is_among, with_commits}

-- commits from the newest to the oldest, each behind its parents
abbrev pub AreClosed : List Snapshot → Type 0
AreClosed [] = ⊤
AreClosed (c ∷ older) = (list_all (is_among older) c.parents ≡ true) × AreClosed older

-- a way to project commits: by the number of a rule, a filter's text, all commits from the newest to the oldest, and a
-- commit's name
abbrev pub Projecting : Type 0
Projecting = ℕ → Bytes → List Snapshot → Bytes → Option Shown

-- A commit's projection stays when commits with new names are added.
abbrev pub StayLaw : Projecting → Type 0
StayLaw project = (text : Bytes) (k : ℕ) (known cs : List Snapshot) (n : Bytes) → AreClosed known → AreWhole known cs
    → is_among known n ≡ true
    → project k text (with_commits known cs) n ≡ project k text known n

-- what is held behind the items with a plan's item is Kept
abbrev pub IsKeptAfter : Projecting → List Bytes → Held → Plan → Type 0
IsKeptAfter project items h p = IsKept project (items ++ plan_items p) (held_after h p)

-- Kept items stay Kept behind nothing, and behind an addition that passes no limit: a rule, projections that are true,
-- and a change, with tags or without, where projections stay.
pub record KeptLaw (project : Projecting) : Type 0 where
  pub none : (items : List Bytes) (h : Held) → IsKept project items h → IsKeptAfter project items h NoPlan
  pub rule : (items : List Bytes) (h : Held) (k : ℕ) → IsKept project items h → IsAddition h (RulePlan k)
      → passed h (room_of items) (RulePlan k) ≡ None → IsKeptAfter project items h (RulePlan k)
  pub keep : (items : List Bytes) (h : Held) (k : ℕ) (text : Bytes) (es : List (Bytes × Option Shown))
      → IsKept project items h → IsAddition h (KeepPlan k text es)
      → passed h (room_of items) (KeepPlan k text es) ≡ None → All (λ e. e.1 ≡ project k text (repo h).commits e.0) es
      → IsKeptAfter project items h (KeepPlan k text es)
  pub change : (items : List Bytes) (h : Held) (blobs : List Bytes) (cs : List Snapshot) (refs : Refs) → StayLaw project
      → IsKept project items h → IsBrought h blobs cs → AreSmall blobs cs
      → AreRefsTo (with_commits (repo h).commits cs) refs
      → passed h (room_of items) (change_plan h (objects_of blobs cs) refs) ≡ None
      → IsKeptAfter project items h (change_plan h (objects_of blobs cs) refs)
  pub tags : (items : List Bytes) (h : Held) (blobs : List Bytes) (cs : List Snapshot) (refs : Refs) (ts : List Tag)
      → StayLaw project → IsKept project items h → IsBrought h blobs cs → AreSmall blobs cs
      → AreRefsTo (with_commits (repo h).commits cs) refs
      → are_tags (objects_of blobs cs ++ h.objects) None ts ≡ true
      → passed h (room_of items) (tagged_plan h (objects_of blobs cs) refs ts) ≡ None
      → IsKeptAfter project items h (tagged_plan h (objects_of blobs cs) refs ts)
