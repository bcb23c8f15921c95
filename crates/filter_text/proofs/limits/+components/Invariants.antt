use Rattle.std.proofs.Common.{◌≡◌, drop}
use Rattle.filter_text.specs.Filters.{components_in}
use Rattle.filter_text.specs.Shapes.{shapes}
use Rattle.filter_text.specs.Limits.{without}
use Rattle.filter_text.proofs.limits.+components.Given as goal

abbrev pub invariant-without_components_in-loop-m : goal.invariant-without_components_in-loop-m
invariant-without_components_in-loop-m l = without l.room (components_in (shapes (drop l.m-index l.members))) ≡ without l.initial.room (components_in (shapes l.members))
