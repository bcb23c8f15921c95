-- Which commit of a graph is the first with a projection.
use Rattle.std.specs.Prelude.{◌≡◌, ◌⊎◌, ℕ, ◌+◌, Bool, false, if◌then◌else◌, is_some, List, [], ◌∷◌, ◌++◌, map, reverse, Contains, Option, Some, None}
use Rattle.std.specs.Option.{option_map, option_map_or}
use Rattle.git_objects.specs.Lists.{Each}
use Rattle.git_objects.specs.Paths.{Bytes, same_bytes}
use Rattle.git_objects.specs.Snapshots.{Snapshot, snapshot_name}
use Rattle.git_objects.specs.declared.name.Name.{Name}
use Rattle.object_store.specs.Objects.{Object}
use Rattle.object_store.specs.StoredSnapshots.{IsTreeOf, snapshot_object}
use Rattle.filter_text.specs.Filters.{Filter}
use Rattle.workspace.specs.Workspaces.{shown}
use Rattle.commit_map.specs.Shown.{Shown, Entries}
use Rattle.projection_laws.specs.Projections.{own_commits, projections}
use Rattle.projection_ground.specs.Grounds.{Extends, IsShownOf, commits_of}
use Rattle.projection_ground.specs.TrueMaps.{IsTrueMap}
use Rattle.projection_ground.specs.declared.ground.Ground.{Ground}
use Rattle.history_ground.specs.declared.origins.First.{First as FirstNames}

-- the place of a commit in order of arrival, and the tree of its projection
pub record First : Type 0 where
  pub place : ℕ
  pub tree : Bytes

-- projections by their names, each with the first commit that has it
abbrev pub Firsts : Type 0
Firsts = List (Bytes × First)

abbrev pub first_value : FirstNames → First
first_value x = record { place = x.place; tree = x.tree.0 }

abbrev pub first_values : List (Name × FirstNames) → Firsts
first_values es = map (λ e. (e.0.0, first_value e.1)) es

-- what is said of that projection
abbrev pub first_of : Bytes → Firsts → Option First
first_of n [] = None
first_of n (e ∷ es) = if same_bytes n e.0 then Some e.1 else first_of n es

-- with a projection behind, where it isn't there
abbrev pub with_first : Firsts → Bytes → First → Firsts
with_first os n x = if is_some (first_of n os) then os else os ++ (n, x) ∷ []

-- whether a commit's projection has this name
abbrev pub is_shown_by : Bytes → Bytes × Option Shown → Bool
is_shown_by m e = option_map_or (λ s. same_bytes m s.commit) e.1 false

-- the place of the first that passes
abbrev pub first_at : {A : Type 0} → (A → Bool) → List A → Option ℕ
first_at test [] = None
first_at test (x ∷ xs) = if test x then Some 0 else option_map (λ n. n + 1) (first_at test xs)

-- the place of the first commit with this projection, by what commits are projected to, the newest first
abbrev pub first_place : Entries → Bytes → Option ℕ
first_place ks m = first_at (is_shown_by m) (reverse ks)

-- Exactly the first commit of the ground's graph of each projection; and the store has each projection, with this tree.
pub record AreFirsts (f : Filter) (g : Ground) (S : List Object) (os : Firsts) : Type 0 where
  pub first : (n : Bytes) → option_map (λ x. x.place) (first_of n os) ≡ first_place (projections g.rule (shown f) [] (commits_of g)) n
  pub there : Each (λ e. IsTreeOf S e.0 e.1.tree) os

-- what projecting all commits makes: trees that are shown, or parts of them, and the commits of their own that they become
abbrev pub IsProjectionObject : Filter → Ground → Object → Type 0
IsProjectionObject f g o = IsShownOf f (commits_of g) o
    ⊎ ((c : Snapshot) × Contains (own_commits g.rule (shown f) (commits_of g) (map snapshot_name (commits_of g))) c × (snapshot_object c ≡ o))

-- What projecting commits leaves, where the map has projections from scratch.
pub record IsProjected (f : Filter) (g g' : Ground) : Type 0 where
  pub same : Extends (IsProjectionObject f g) g g'
  pub map : IsTrueMap g'.store (commits_of g) g.rule f g'.map
