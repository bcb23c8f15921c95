use Rattle.std.proofs.Common.{ap, ◌∙◌}
use Rattle.std.specs.FinMap.{find}
use Rattle.git_objects.specs.Refs.{bytes_cmp}
use Rattle.repo_ground.specs.Laws.{Named}
use Rattle.state_items.proofs.RefsHeld.{head-found}
use Rattle.repo_ground.proofs.view.StateViewBase.branch.Goals as goal

pub returns : goal.returns
returns c =
    c.get.ensures ∙ head-found c.args.refname.now c.self.inside.refs.now c.len.ensures.distinct
    ∙ ap (λ (v : Named). find bytes_cmp c.args.refname.now v.refs) c.self.view_is
