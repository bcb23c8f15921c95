-- How a graph holds its commits: each name with what the commit has besides it.
use Rattle.std.specs.Prelude.{◌^◌, ◌≤◌, List, map, length}
use Rattle.git_objects.specs.declared.name.Name.{Name}
use Rattle.commit_graph.specs.Graphs.{Row, IsGraph}
use Rattle.commit_graph.specs.declared.graph.Node.{Node}

abbrev pub row : Name × Node → Row
row e = record { name = e.0.0; tree = e.1.tree.0; parents = e.1.parents.items }

abbrev pub rows : List (Name × Node) → List Row
rows es = map row es

-- a graph of at most 2^30 commits
pub record HoldsGraph (rows : List Row) : Type 0 where
  pub graph : IsGraph rows
  pub few : length rows ≤ 2 ^ 30
