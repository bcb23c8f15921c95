use Rattle.std.proofs.Common.{◌≡◌, true}
use Rattle.std.specs.List.{list_all}
use Rattle.git_objects.specs.Paths.{is_component}
use Rattle.path_trees.specs.Walked.{AreLevels}
use Rattle.path_trees.proofs.Walks.{left, weight}
use Rattle.path_trees.proofs.walk.next_leaf.Given as goal

-- what is left stays the same until a leaf is found
abbrev pub invariant-levels : goal.invariant-levels
invariant-levels l = record {
  levels : AreLevels l.store l.levels.items;
  components : list_all is_component l.components.items ≡ true;
  same : left l.store l.levels.items l.components.items ≡ left l.store l.initial.levels.items l.initial.components.items;
}

abbrev pub decreases-levels : goal.decreases-levels
decreases-levels l = weight l.store l.levels.items
