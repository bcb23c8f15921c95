-- A walk from a commit down to commits of which something is kept.
use Rattle.std.specs.Prelude.{◌≡◌, ◌+◌, ◌≤◌, ℕ, [], ◌∷◌, ◌++◌, length, Option, Some, None, Result, Ok, Err}
use Rattle.git_objects.specs.Paths.{Bytes}
use Rattle.git_objects.specs.Snapshots.{Snapshot, ancestors}
use Rattle.filter_text.specs.Filters.{Filter}
use Rattle.workspace.specs.Workspaces.{shown}
use Rattle.commit_map.specs.Shown.{Shown, Entries}
use Rattle.projection_laws.specs.Projections.{choice_of, projected}
use Rattle.projection_laws.specs.Filled.{IsFilled, lacking}
use Rattle.projection_laws.specs.StoredGraphs.{name_at, snapshot_named}
use Rattle.projection_ground.specs.Choosing.{Agree, commits_before, IsBelow}
use Rattle.projection_ground.specs.Grounds.{commits_of, Extends, IsShownOf}
use Rattle.projection_ground.specs.declared.ground.Ground.{Ground}

-- what the commit at a place is projected to
abbrev pub IsProjectedTo : Filter → Ground → ℕ → Option Shown → Type 0
IsProjectedTo f g place v =
    (c : Snapshot) → snapshot_named g.store (name_at g.graph place) ≡ Some c → (ks : Entries) → Agree g.map ks (commits_before g place) →
    projected (choice_of g.rule (shown f) (commits_before g place) ks c) ≡ v

-- one entry more, of the commit at a place, with one step
pub record IsSettled (f : Filter) (place : ℕ) (g g' : Ground) (s s' : ℕ) : Type 0 where
  pub value : Option Shown
  pub is : IsProjectedTo f g place value
  pub map : g'.map ≡ g.map ++ (name_at g.graph place, value) ∷ []
  pub step : s' ≡ s + 1

-- nothing is kept that wasn't, and no step is taken
pub record IsUnsettled (g g' : Ground) (s s' : ℕ) : Type 0 where
  pub map : g'.map ≡ g.map
  pub step : s' ≡ s

abbrev pub IsStep : {E : Type 0} → Filter → ℕ → Ground → Ground → ℕ → ℕ → Result (Option ℕ) E → Type 0
IsStep f place g g' s s' (Ok None) = IsSettled f place g g' s s'
IsStep f place g g' s s' (Ok (Some q)) = IsBelow g place q × IsUnsettled g g' s s'
IsStep f place g g' s s' (Err e) = IsUnsettled g g' s s'

-- What a walk from the commit of a name leaves.
pub record IsWalked (f : Filter) (head : Bytes) (g g' : Ground) (s s' : ℕ) : Type 0 where
  pub same : Extends (IsShownOf f (commits_of g)) g g'
  pub map : IsFilled g.rule (shown f) (commits_of g) head g.map g'.map
  pub few : s' + lacking g'.map (ancestors (commits_of g) head) ≤ s + lacking g.map (ancestors (commits_of g) head)
  pub counted : s' + length g.map ≡ s + length g'.map
