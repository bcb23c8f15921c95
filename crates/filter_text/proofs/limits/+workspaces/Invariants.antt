use Rattle.std.proofs.Common.{◌≡◌, drop}
use Rattle.filter_text.specs.Filters.{some_have_workspace}
use Rattle.filter_text.specs.Shapes.{shapes}
use Rattle.filter_text.proofs.limits.+workspaces.Given as goal

abbrev pub invariant-some_have_workspace-loop-m : goal.invariant-some_have_workspace-loop-m
invariant-some_have_workspace-loop-m l = some_have_workspace (shapes (drop l.m-index l.members)) ≡ some_have_workspace (shapes l.members)
