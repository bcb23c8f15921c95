-- What states keep to.
use Rattle.std.specs.Prelude.{◌≡◌, ◌++◌, List, map, reverse}
use Rattle.git_objects.specs.Paths.{Bytes}
use Rattle.git_objects.specs.Refs.{Refs}
use Rattle.commit_map.specs.Shown.{Entries}
use Rattle.object_store.specs.Objects.{Object, IsStore}
use Rattle.commit_graph.specs.Graphs.{Row}
use Rattle.fast_import.specs.Bases.{base_in}
use Rattle.fast_import.specs.Replays.{named_tree}
use Rattle.projection_ground.specs.Grounds.{IsGround, commits_of}
use Rattle.projection_ground.specs.declared.ground.Ground.{Ground}
use Rattle.state_items.specs.Items.{Held}
use Rattle.state_items.specs.Repos.{repo}
use Rattle.repo_ground.specs.Contents.{Contents, Spells}

-- the commits of a graph with the names of their trees, the newest first
abbrev pub trees_of : List Row → List (Bytes × Bytes)
trees_of rows = map (λ r. (r.name, r.tree)) (reverse rows)

-- what a stream may name of a state: the commits with their trees, the newest first, the refs in byte order, and the names of the
-- blobs, the newest first
pub record Named : Type 0 where
  pub commits : List (Bytes × Bytes)
  pub refs : Refs
  pub blobs : List Bytes

-- The ground of a state that has what items hold has exactly the commits that are held, and a stream may name of the state exactly the
-- commits that are held with their trees, the refs that are held, and the known blobs.
pub record GroundLaw : Type 0 where
  pub commits : (h : Held) (s : Contents) → Spells h s → IsGround s.basis → commits_of s.basis ≡ (repo h).commits
  pub base : (h : Held) (s : Contents) → Spells h s → IsGround s.basis
      → base_in s.basis.store (trees_of s.basis.graph) h.refs (reverse s.blobs)
      ≡ record { commits = map named_tree (repo h).commits; refs = h.refs; blobs = (repo h).blobs }

-- Where its ground has grown, the store by any objects and the map by entries behind those that are there, a state has what items hold
-- still; and a ground whose store has grown is a ground.
pub record GrownLaw : Type 0 where
  pub state : (h : Held) (s : Contents) (g : Ground) (newer : List Object) (added : Entries) → Spells h s → IsStore g.store
      → newer ++ s.basis.store ≡ g.store → s.basis.map ++ added ≡ g.map → g.graph ≡ s.basis.graph → g.rule ≡ s.basis.rule
      → Spells h (record s { basis = g })
  pub base : (g : Ground) (newer S : List Object) → IsGround g → IsStore S → newer ++ g.store ≡ S → IsGround (record g { store = S })
