-- What becomes of a commit, from what is kept of older ones.
use Rattle.std.specs.Prelude.{◌≡◌, ◌<◌, ◌≤◌, ℕ, Bool, true, List, [], length, map, take, slice_get, is_some, Option, Some, None, All, Contains, IsSome}
use Rattle.std.specs.List.{list_all}
use Rattle.std.specs.Option.{option_map_or}
use Rattle.git_objects.specs.Commits.{Letter}
use Rattle.git_objects.specs.Paths.{Bytes}
use Rattle.git_objects.specs.Snapshots.{Snapshot, Graph, has}
use Rattle.git_objects.specs.Trees.{Flat}
use Rattle.commit_graph.specs.Graphs.{Row, Reaches}
use Rattle.commit_map.specs.Shown.{Shown, Entries, kept_at, shown_value}
use Rattle.projection_laws.specs.Projections.{add_shown, chosen, is_reached, known_at, leads, members, own_commit}
use Rattle.projection_laws.specs.Projections as projections
use Rattle.projection_laws.specs.StoredGraphs.{name_at, graph_of}
use Rattle.projection_ground.specs.Grounds.{commits_of}
use Rattle.projection_ground.specs.declared.choosing.Choice.{Choice}
use Rattle.projection_ground.specs.declared.choosing.Choice.TheVariants.{Below, Nothing, Member, New}
use Rattle.projection_ground.specs.declared.choosing.Test.{Test}
use Rattle.projection_ground.specs.declared.choosing.Test.TheVariants.{Is, Lacks}
use Rattle.projection_ground.specs.declared.ground.Ground.{Ground}

-- the places of the parents of the commit at a place
abbrev pub parents_at : List Row → ℕ → List ℕ
parents_at rows i = option_map_or (λ r. r.parents) (slice_get rows i) []

-- the names of the commits at these places
abbrev pub names_at : List Row → List ℕ → List Bytes
names_at rows ps = map (name_at rows) ps

-- the commits before a place, the newest first
abbrev pub commits_before : Ground → ℕ → Graph
commits_before g i = graph_of g.store (take i g.graph)

-- what is kept of the commits is what is known of them
abbrev pub Agree : Entries → Entries → Graph → Type 0
Agree es ks older = (n : Bytes) (o : Option Shown) → has older n ≡ true → kept_at n es ≡ Some o → o ≡ known_at ks n

-- something is kept of the commits at these places
abbrev pub AreKept : Ground → List ℕ → Type 0
AreKept g ps = All (λ p. IsSome (kept_at (name_at g.graph p) g.map)) ps

-- something is kept of each commit of the ground
abbrev pub KeepsAll : Ground → Type 0
KeepsAll g = (p : ℕ) → p < length g.graph → IsSome (kept_at (name_at g.graph p) g.map)

-- with a projection behind, where there is one and none of its name is there
abbrev pub with_known : List Shown → Option Shown → List Shown
with_known before None = before
with_known before (Some p) = add_shown before p

-- a commit before the place that the one at the place reaches, and that the map lacks
pub record IsBelow (g : Ground) (place q : ℕ) : Type 0 where
  pub before : q < place
  pub reached : Reaches g.graph place q
  pub lacked : kept_at (name_at g.graph q) g.map ≡ None

-- a commit that a parent reaches, which is the commit at one of these places, and that the map lacks
pub record IsLacked (g : Ground) (ps : List ℕ) (q : ℕ) : Type 0 where
  pub parent : ℕ
  pub among : Contains ps parent
  pub reached : Reaches g.graph parent q
  pub lacked : kept_at (name_at g.graph q) g.map ≡ None

-- a place behind these ones, which the next commit would have at most
pub record IsBehind (g : Ground) (ps : List ℕ) (place : ℕ) : Type 0 where
  pub within : place ≤ length g.graph
  pub behind : All (λ p. p < place) ps

-- Whether each of these is the projection of the commit at the place `first` or of an ancestor of it, by what is known of the commits
-- before a later place.
abbrev pub reaches_each : Ground → ℕ → ℕ → List Shown → Entries → Bool
reaches_each g place first ms ks = list_all (is_reached (commits_before g place) ks (name_at g.graph first)) ms

-- whether a projection of the commits at these places leads the others, by what is known of those before a place
abbrev pub leads_upon : Ground → ℕ → List ℕ → Entries → Shown → Bool
leads_upon g place ps ks m = leads (commits_before g place) ks (names_at g.graph ps) m

-- whether a projection of a parent of the commit at the place leads the others, by what is known
abbrev pub leads_at : Ground → ℕ → Entries → Shown → Bool
leads_at g place ks m = leads_upon g place (parents_at g.graph place) ks m

-- Whether something is so by all that agrees with what is kept of the commits before the place; or a commit that has to be projected
-- first, which one at these places reaches.
abbrev pub IsTest : Ground → ℕ → List ℕ → (Entries → Bool) → Test → Type 0
IsTest g place ps value (Is b) = (ks : Entries) → Agree g.map ks (commits_before g place) → b ≡ value ks
IsTest g place ps value (Lacks q) = IsLacked g ps q

-- What a commit becomes by all that agrees with what is kept of the commits before the place, where a commit of its own is d; or a
-- commit that has to be projected first, which one at these places reaches.
abbrev pub IsChoice : Ground → ℕ → List ℕ → Snapshot → (Entries → projections.Choice) → Choice → Type 0
IsChoice g place ps d value (Below q) = IsLacked g ps q
IsChoice g place ps d value Nothing = (ks : Entries) → Agree g.map ks (commits_before g place) → value ks ≡ projections.Nothing
IsChoice g place ps d value (Member m) = (ks : Entries) → Agree g.map ks (commits_before g place) → value ks ≡ projections.Member (shown_value m)
IsChoice g place ps d value New = (ks : Entries) → Agree g.map ks (commits_before g place) → value ks ≡ projections.New d

-- whether a commit upon those at these places, of which this tree is shown, becomes one of its own, by what is kept
abbrev pub is_own_by : Ground → List ℕ → Flat → Letter → Bool
is_own_by g ps t letter =
    is_some (own_commit (chosen g.rule (leads (commits_of g) g.map (names_at g.graph ps)) t letter (members g.map (names_at g.graph ps))))
