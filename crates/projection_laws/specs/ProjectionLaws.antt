-- What projections keep to.
use Rattle.std.specs.Prelude.{◌≡◌, true, List, [], ◌∷◌, map, reverse, Contains, Option, Some, None}
use Rattle.std.specs.List.{last_or}
use Rattle.git_objects.specs.Paths.{Bytes}
use Rattle.git_objects.specs.Trees.{Flat}
use Rattle.git_objects.specs.Names.{tree_name}
use Rattle.commit_map.specs.Shown.{Shown, Entries, kept_at}
use Rattle.commit_map.specs.declared.rule.Rule.{Rule}
use Rattle.git_objects.specs.Snapshots.{Snapshot, Graph, snapshot_name, has, commit_at, is_graph, add_all}
use Rattle.projection_laws.specs.Projections.{shown_of, projections, projection, history, own_commits, history_graph}

-- a projection with the name of a tree, or none for the empty tree
abbrev pub IsOf : Flat → Option Shown → Type 0
IsOf t None = t ≡ []
IsOf t (Some s) = s.tree ≡ tree_name t

-- each entry of a commit of the graph is its projection
abbrev pub AreTrue : Rule → (Flat → Flat) → Graph → Entries → Type 0
AreTrue k shown g kept = (n : Bytes) (p : Option Shown) → kept_at n kept ≡ Some p → has g n ≡ true → p ≡ projection k shown g n

pub record ProjectionLaw : Type 0 where
  -- a projection carries the shown tree's name, and none means that the shown tree is empty
  pub tree : (k : Rule) (shown : Flat → Flat) (g : Graph) (n : Bytes) (c : Snapshot) → commit_at g n ≡ Some c → IsOf (shown c.tree) (projection k shown g n)
  -- it stays when commits are added
  pub added : (k : Rule) (shown : Flat → Flat) (cs : List Snapshot) (g : Graph) (n : Bytes) → has g n ≡ true → projection k shown (add_all g cs) n ≡ projection k shown g n
  -- with true entries kept each commit gives what it gives from scratch
  pub kept : (k : Rule) (shown : Flat → Flat) (g : Graph) (ks : Entries) → is_graph g ≡ true → AreTrue k shown g ks → projections k shown ks g ≡ projections k shown [] g

-- no two different commits of these have one name
abbrev pub AreOfDistinctNames : List Snapshot → Type 0
AreOfDistinctNames cs = (c d : Snapshot) → Contains cs c → Contains cs d → snapshot_name c ≡ snapshot_name d → c ≡ d

-- A history is the list of the commits that it makes, whose names are distinct and whose parents come before them.
-- Where no two different commits that projecting the head and its ancestors makes have one name, its last one is the
-- projection of the head, and it has none where the head gives nothing.
pub record HistoryLaw : Type 0 where
  pub commits : (k : Rule) (shown : Flat → Flat) (g : Graph) (h : Bytes) → is_graph g ≡ true → map shown_of (reverse (history_graph k shown g h)) ≡ history k shown g h
  pub graph : (k : Rule) (shown : Flat → Flat) (g : Graph) (h : Bytes) → is_graph g ≡ true → is_graph (history_graph k shown g h) ≡ true
  pub last : (k : Rule) (shown : Flat → Flat) (g : Graph) (h : Bytes) → is_graph g ≡ true → AreOfDistinctNames (own_commits k shown g (h ∷ [])) → last_or None (history k shown g h) ≡ projection k shown g h

-- each entry is of a commit of the graph
abbrev pub AreOf : Graph → Entries → Type 0
AreOf g kept = (n : Bytes) (p : Option Shown) → kept_at n kept ≡ Some p → has g n ≡ true

-- Where each entry is of a commit of the graph and is its projection, this stays when commits are added.
pub record StayLaw : Type 0 where
  pub of : (cs : List Snapshot) (g : Graph) (kept : Entries) → AreOf g kept → AreOf (add_all g cs) kept
  pub values : (k : Rule) (shown : Flat → Flat) (cs : List Snapshot) (g : Graph) (kept : Entries) → AreOf g kept → AreTrue k shown g kept → AreTrue k shown (add_all g cs) kept
