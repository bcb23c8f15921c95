use Rattle.std.proofs.Common.{◌-◌}
use Rattle.git_objects.proofs.CommitViews.{Passed}
use Rattle.git_objects.proofs.commit_view.parent_lines.Given as goal

abbrev pub invariant-parents : goal.invariant-parents
invariant-parents l = Passed l.count l.text l.rest

abbrev pub decreases-parents : goal.decreases-parents
decreases-parents l = 16 - l.count
