use Rattle.std.proofs.Common.{◌≡◌, ◌≤◌, ◌⊎◌, length}
use Rattle.git_objects.specs.Trees.{rests}
use Rattle.git_objects.specs.Entries.{is_dir}
use Rattle.git_objects.specs.Paths.{is_nil}
use Rattle.std.proofs.Common.{true, false}
use Rattle.path_trees.specs.Standing.{node}
use Rattle.filter_apply.proofs.Placements.{IsPlacing}
use Rattle.filter_apply.proofs.placing.placed.Given as goal

abbrev pub invariant-levels : goal.invariant-levels
invariant-levels l = record {
  within : l.level ≤ length l.target;
  placing : IsPlacing l.fn.store l.target (rests (node l.fn.store l.fn.found)) l.level l.store l.found;
  kind : (is_dir l.found.mode ≡ true) ⊎ ((is_nil l.target ≡ false) × (l.level ≡ length l.target));
}

abbrev pub decreases-levels : goal.decreases-levels
decreases-levels l = l.level
