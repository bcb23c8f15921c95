-- What projections are made upon, and what making them leaves of it.
use Rattle.std.specs.Prelude.{◌≡◌, List, ◌++◌, Contains}
use Rattle.git_objects.specs.Snapshots.{Snapshot, Graph}
use Rattle.object_store.specs.Objects.{Object}
use Rattle.object_store.specs.Growth.{IsGrownBy}
use Rattle.filter_text.specs.Filters.{Filter}
use Rattle.filter_routes.specs.TableValues.{Table}
use Rattle.filter_apply.specs.Hands.{IsShownObject}
use Rattle.filter_apply.specs.Truth.{AreTrueFor}
use Rattle.workspace.specs.Workspaces.{resolve}
use Rattle.projection_laws.specs.StoredGraphs.{IsGraphIn, graph_of}
use Rattle.projection_ground.specs.TrueMaps.{AreTrueMaps}
use Rattle.projection_ground.specs.declared.ground.Ground.{Ground}

-- the commits with their flat trees, the newest first
abbrev pub commits_of : Ground → Graph
commits_of g = graph_of g.store g.graph

-- The graph's commits are in the store; the memo has what the tables show of trees of the store; and the true maps have projections of
-- the commits, from scratch.
pub record IsGround (g : Ground) : Type 0 where
  pub graph : IsGraphIn g.store g.graph
  pub memo : AreTrueFor g.store g.tables g.memo
  pub maps : AreTrueMaps g.store (commits_of g) g.true_maps

-- tables in front of newer ones
abbrev pub AreInFront : List Table → List Table → Type 0
AreInFront old new = (newer : List Table) × (old ++ newer ≡ new)

-- Graph and rule are as they were, tables and store grew, the store by objects of a kind, and it is a ground still.
pub record Extends (made : Object → Type 0) (g g' : Ground) : Type 0 where
  pub graph : g'.graph ≡ g.graph
  pub rule : g'.rule ≡ g.rule
  pub tables : AreInFront g.tables g'.tables
  pub store : IsGrownBy made g.store g'.store
  pub ground : IsGround g'

-- A tree that a filter shows of the tree of one of these commits, or a part of it: of leaves of that tree, and of components of its
-- paths and of the paths of the filter for that tree.
abbrev pub IsShownOf : Filter → Graph → Object → Type 0
IsShownOf f g o = (c : Snapshot) × Contains g c × IsShownObject (resolve f c.tree) c.tree o
