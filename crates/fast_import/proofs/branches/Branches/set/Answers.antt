use Rattle.std.proofs.Common.{ap, ◌∙◌}
use Rattle.std.specs.FinMap.{put}
use Rattle.git_objects.specs.Refs.{Refs, bytes_cmp}
use Rattle.fast_import.specs.Replaying.{head_values}
use Rattle.fast_import.proofs.Heading.{put-heads}
use Rattle.fast_import.proofs.branches.Branches.set.Goals as goal

pub returns-clause-ok : goal.returns-clause-ok
returns-clause-ok c =
    ap head_values c.in_ok-insert.ensures.entries
    ∙ put-heads c.args.refname c.args.head c.self.inside.heads.entries
    ∙ ap (λ (t : Refs). put bytes_cmp c.args.refname c.args.head.0 t) c.self.view_is
