-- What a turn of a walk gives.
use Rattle.std.specs.Prelude.{◌≡◌, ℕ, List, Option, Some, None}
use Rattle.git_objects.specs.Paths.{Bytes}
use Rattle.git_objects.specs.Snapshots.{Snapshot, snapshot_commit}
use Rattle.git_objects.specs.Commits.{Letter, commit_body}
use Rattle.git_objects.specs.Names.{name}
use Rattle.git_objects.specs.declared.kind.Kind.TheVariants.{Commit as CommitKind}
use Rattle.git_objects.specs.CommitBodies.{commit_from}
use Rattle.object_store.specs.Unfolding.{flat, StandsFor}
use Rattle.filter_text.specs.Filters.{Filter}
use Rattle.workspace.specs.Workspaces.{shown}
use Rattle.commit_map.specs.Shown.{Shown, Entries, shown_value}
use Rattle.commit_map.specs.declared.commit_map.Shown as code
use Rattle.projection_laws.specs.Made.{IsOwnBody}
use Rattle.projection_laws.specs.Projections.{Choice, Nothing, Member, New, choice_of, chosen, own, shown_of}
use Rattle.projection_ground.specs.Choosing.{Agree, commits_before, IsBelow, leads_at}
use Rattle.projection_ground.specs.declared.ground.Ground.{Ground}
use Rattle.projection_ground.specs.declared.turning.Turn.{Turn}
use Rattle.projection_ground.specs.declared.turning.Turn.TheVariants as turns

-- what becomes of the commit at the place, by all that agrees with what is kept
abbrev pub Becomes : Filter → Ground → ℕ → Snapshot → Choice → Type 0
Becomes f g place c x = (ks : Entries) → Agree g.map ks (commits_before g place) → choice_of g.rule (shown f) (commits_before g place) ks c ≡ x

-- a commit of its own, of a tree upon projections
pub record IsOwn (t : Bytes) (ms : List Shown) (letter : Letter) (s : code.Shown) (b : Bytes) : Type 0 where
  pub body : IsOwnBody t ms letter b
  pub name : s.commit.0 ≡ name CommitKind b
  pub tree : s.tree.0 ≡ t

abbrev pub IsOwnTurn : Bytes → List Shown → Letter → Turn → Type 0
IsOwnTurn t ms letter (turns.Below q) = ⊥
IsOwnTurn t ms letter (turns.Kept o) = ⊥
IsOwnTurn t ms letter (turns.New s b) = IsOwn t ms letter s b.items

-- it becomes a commit of its own, whose tree is in the store
pub record IsNew (f : Filter) (g g' : Ground) (place : ℕ) (c : Snapshot) (s : code.Shown) (b : Bytes) : Type 0 where
  pub commit : Snapshot
  pub becomes : Becomes f g place c (New commit)
  pub names : shown_value s ≡ shown_of commit
  pub body : b ≡ commit_body (snapshot_commit commit)
  pub read : commit_from b ≡ Some (snapshot_commit commit)
  pub tree : StandsFor g'.store s.tree.0 commit.tree

-- it becomes nothing, or what a parent is projected to
abbrev pub kept_choice : Option code.Shown → Choice
kept_choice None = Nothing
kept_choice (Some m) = Member (shown_value m)

-- what the commit at a place becomes by the tree that is shown of it, and by its parents' projections
abbrev pub IsTurnUpon : Ground → ℕ → Bytes → Letter → List Shown → Turn → Type 0
IsTurnUpon g place tree letter ms (turns.Below q) = IsBelow g place q
IsTurnUpon g place tree letter ms (turns.Kept o) = (ks : Entries) → Agree g.map ks (commits_before g place) → chosen g.rule (leads_at g place ks) (flat g.store tree) letter ms ≡ kept_choice o
IsTurnUpon g place tree letter ms (turns.New s b) =
    ((ks : Entries) → Agree g.map ks (commits_before g place) → chosen g.rule (leads_at g place ks) (flat g.store tree) letter ms ≡ New (own (flat g.store tree) letter ms))
    × IsOwn tree ms letter s b.items

abbrev pub IsTurn : Filter → Ground → Ground → ℕ → Snapshot → Turn → Type 0
IsTurn f g g' place c (turns.Below q) = IsBelow g place q
IsTurn f g g' place c (turns.Kept o) = Becomes f g place c (kept_choice o)
IsTurn f g g' place c (turns.New s b) = IsNew f g g' place c s b.items
