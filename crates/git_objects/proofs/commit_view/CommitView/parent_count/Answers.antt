use Rattle.std.proofs.Common.{length, sym, ap, ◌∙◌}
use Rattle.git_objects.specs.Commits.{Commit}
use Rattle.git_objects.proofs.CommitViews.{parents_long}
use Rattle.git_objects.proofs.commit_view.CommitView.parent_count.Goals as goal

pub returns-clause-count : goal.returns-clause-count
returns-clause-count c =
    sym (parents_long c.self.inside.count c.self.inside.parents.now) ∙ ap (λ (v : Commit). length v.parents) c.self.view_is
