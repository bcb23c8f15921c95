-- How far the originals of pushed commits have been worked out over a ground.
use Rattle.std.specs.Prelude.{◌≡◌, ◌⊎◌, ◌<◌, ℕ, true, List, ◌∷◌, ◌++◌, [], length, slice_get, OnOk, IfErr, Result, Some, None, Ok, Err}
use Rattle.std.specs.Option.{option_map}
use Rattle.git_objects.specs.Lists.{Each}
use Rattle.git_objects.specs.Names.{tree_name}
use Rattle.git_objects.specs.Paths.{Bytes}
use Rattle.git_objects.specs.Snapshots.{Snapshot, has}
use Rattle.git_objects.specs.Trees.{IsTree}
use Rattle.git_objects.specs.declared.name.Name.{Name}
use Rattle.object_store.specs.Growth.{IsGrownBy}
use Rattle.object_store.specs.Objects.{Object}
use Rattle.object_store.specs.Unfolding.{flat}
use Rattle.commit_graph.specs.Graphs.{Row, place_of}
use Rattle.commit_map.specs.Shown.{Entries}
use Rattle.filter_text.specs.Filters.{Filter}
use Rattle.workspace.specs.Workspaces.{shown}
use Rattle.projection_laws.specs.ProjectionLaws.{AreOf, AreTrue}
use Rattle.projection_laws.specs.Projections.{known_at, projection}
use Rattle.projection_laws.specs.StoredGraphs.{name_at}
use Rattle.projection_ground.specs.Choosing.{KeepsAll}
use Rattle.projection_ground.specs.Grounds.{AreInFront, Extends, IsGround, IsShownOf, commits_of}
use Rattle.projection_ground.specs.declared.ground.Ground.{Ground}
use Rattle.history_ground.specs.Origins.{Firsts}
use Rattle.fast_import.specs.Standing.{IsCommitIn}
use Rattle.fast_import.specs.declared.replayed.Made.{Made}
use Rattle.push_laws.specs.PushLaws.{commit_of}
use Rattle.push_back.specs.Refusals.{IsRefusedBy}
use Rattle.push_back.specs.declared.refusal.TreeRefusal.{TreeRefusal}
use Rattle.merge_laws.specs.MergeLaws.{IsJoined, projected_names}
use Rattle.merge_laws.specs.MergeVerdicts.{Progress, after, origin_of, original}
use Rattle.merge_push.specs.Originals.{IsMadeOne, IsReadAgain}
use Rattle.merge_push.specs.Places.{Places, origin_in}

-- Of a ground graph, map, tables and store grew, each behind what was there, the store by objects of a kind; the rule is as it was.
pub record Widens (made : Object → Type 0) (g g' : Ground) : Type 0 where
  pub rows : (more : List Row) × (g.graph ++ more ≡ g'.graph)
  pub entries : (more : Entries) × (g.map ++ more ≡ g'.map)
  pub rule : g'.rule ≡ g.rule
  pub tables : AreInFront g.tables g'.tables
  pub store : IsGrownBy made g.store g'.store
  pub ground : IsGround g'

-- the ground's map has projections of its commits, from scratch
pub record HasTrueMap (f : Filter) (g : Ground) : Type 0 where
  pub of : AreOf (commits_of g) g.map
  pub values : AreTrue g.rule (shown f) (commits_of g) g.map

-- Projections of commits of the ground were worked out, from scratch, and kept behind the others.
pub record IsFilledUp (f : Filter) (g g' : Ground) : Type 0 where
  pub same : Extends (IsShownOf f (commits_of g)) g g'
  pub entries : (more : Entries) × (g.map ++ more ≡ g'.map)
  pub true_map : HasTrueMap f g'

-- A ground's graph and map are those of a push that has come so far; the original before stands at a place, and so do the origins of
-- what may be merged.
pub record IsProgress (f : Filter) (os : Firsts) (g : Ground) (before : ℕ) (es : Places) (s : Progress) : Type 0 where
  pub ground : IsGround g
  pub graph : commits_of g ≡ s.graph
  pub keeps : KeepsAll g
  pub of : AreOf s.graph g.map
  pub kept : (n : Bytes) → has s.graph n ≡ true → known_at g.map n ≡ known_at s.known n
  pub known : (n : Bytes) → has s.graph n ≡ true → known_at s.known n ≡ projection g.rule (shown f) s.graph n
  pub each : Each (λ e. (e.1 ≡ projection g.rule (shown f) s.graph e.0) × (has s.graph e.0 ≡ true)) s.known
  pub head_there : has s.graph s.head ≡ true
  pub there : before < length g.graph
  pub head : name_at g.graph before ≡ s.head
  pub tree : (r : Row) → slice_get g.graph before ≡ Some r → flat g.store r.tree ≡ s.tree
  pub is_tree : IsTree s.tree
  pub origins : (n : Bytes) → option_map (λ e. e.0) (origin_of s.known n) ≡ option_map (name_at g.graph) (origin_in os es n)
  pub within : (n : Bytes) (p : ℕ) → origin_in os es n ≡ Some p → p < length g.graph

-- the row of a commit
abbrev pub row_of : Made → List ℕ → Row
row_of m ps = record { name = m.name.0; tree = m.tree.0; parents = ps }

-- An original has a place in the graph, which it had before; or it stands there now behind the others, and is known to be projected
-- to the pushed commit.
abbrev pub IsEnteredAs : Made → List ℕ → Made → Ground → Ground → ℕ → Type 0
IsEnteredAs m ps pushed g g' place =
    ((Some place ≡ place_of m.name.0 g.graph) × (g' ≡ g))
    ⊎ ((place_of m.name.0 g.graph ≡ None) × (place ≡ length g.graph) × (g' ≡ record g {
      graph = g.graph ++ row_of m ps ∷ [];
      map = g.map ++ (m.name.0, Some (record { commit = pushed.name.0; tree = pushed.tree.0 })) ∷ [];
    }))

-- it isn't entered, or only in the graph
abbrev pub IsHalfEntered : Made → List ℕ → Ground → Ground → Type 0
IsHalfEntered m ps g g' = (g' ≡ g) ⊎ ((place_of m.name.0 g.graph ≡ None) × (g' ≡ record g { graph = g.graph ++ row_of m ps ∷ [] }))

-- The next commit stands over the store, and is joined to what came before.
pub record IsNext (f : Filter) (os : Firsts) (g : Ground) (before : ℕ) (es : Places) (s : Progress) (m : Made) (c : Snapshot) : Type 0 where
  pub progress : IsProgress f os g before es s
  pub standing : IsCommitIn g.store m c
  pub read_again : IsReadAgain c
  pub joined : IsJoined (projected_names s.known) (commit_of (known_at s.known s.head)) c

-- the name of a commit with its tree's, as the code has them
abbrev pub made_as : Name → Snapshot → Made
made_as n c = record { name = n; tree = record { 0 = tree_name c.tree } }

-- The commit has an original, which stands at a place now, and whose name is behind the others.
pub record IsAdded (f : Filter) (os : Firsts) (g : Ground) (before : ℕ) (es : Places) (s : Progress) (c : Snapshot) (ns ns' : List Name) : Type 0 where
  pub commit : Snapshot
  pub is : original g.rule f s c ≡ Ok commit
  pub progress : IsProgress f os g before es (after s c commit)
  pub name : Name
  pub standing : IsCommitIn g.store (made_as name commit) commit
  pub names : ns' ≡ ns ++ name ∷ []

-- An original of the commit was added, or the commit is refused.
pub record IsAddedTo (f : Filter) (os : Firsts) (s : Progress) (c : Snapshot) (g g' : Ground) (before : ℕ) (es : Places) (ns ns' : List Name) (result : Result Unit TreeRefusal) : Type 0 where
  pub ok : OnOk result (IsAdded f os g' before es s c ns ns')
  pub err : IfErr result (IsRefusedBy (λ r. original g.rule f s c ≡ Err r) (IsMadeOne f s.tree c (original g.rule f s c)) g'.store)
  pub same : Widens (IsMadeOne f s.tree c (original g.rule f s c)) g g'
