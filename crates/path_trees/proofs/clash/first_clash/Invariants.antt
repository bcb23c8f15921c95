use Rattle.std.proofs.Common.{◌≡◌, true}
use Rattle.std.specs.List.{list_all}
use Rattle.git_objects.specs.Paths.{is_component}
use Rattle.path_trees.proofs.ClashSteps.{AreOpenLevels, clash_left, steps_left}
use Rattle.path_trees.proofs.clash.first_clash.Given as goal

-- the first clash of what is left stays the same until it is found
abbrev pub invariant-levels : goal.invariant-levels
invariant-levels l = record {
  levels : AreOpenLevels l.store l.levels.items;
  components : list_all is_component l.components.items ≡ true;
  same : clash_left l.store l.levels.items l.components.items ≡ clash_left l.store l.initial.levels.items l.initial.components.items;
}

abbrev pub decreases-levels : goal.decreases-levels
decreases-levels l = steps_left l.store l.levels.items
