use Rattle.std.proofs.Common.{◌≤◌, ◌≡◌, ◌<◌, take, length}
use Rattle.git_objects.specs.Paths.{Path}
use Rattle.git_objects.specs.Trees.{Flat, at, remove}
use Rattle.stage_nodes.specs.Branches.{Stands}
use Rattle.stage_nodes.specs.Walks.{CanPrune}
use Rattle.stage_nodes.proofs.nodes.Nodes.prune.Given as goal

abbrev pub invariant-levels : goal.invariant-levels
invariant-levels l = record {
  low : 0 < l.level;
  within : l.level ≤ length l.components;
  -- what lies below the beginning of the path lies below the path
  stays : l.self ≡ l.initial.self;
  same : (h : CanPrune l.initial.self l.components) → (t : Flat) → Stands h.objects l.initial.self t → (y : Path) → at (remove t (take l.level l.components)) y ≡ at (remove t l.components) y;
}

abbrev pub decreases-levels : goal.decreases-levels
decreases-levels l = l.level
