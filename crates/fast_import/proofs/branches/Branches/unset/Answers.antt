use Rattle.std.proofs.Common.{ap, ◌∙◌}
use Rattle.git_objects.specs.Refs.{Refs}
use Rattle.fast_import.specs.Replaying.{head_values, without_ref}
use Rattle.fast_import.proofs.Heading.{removed-heads}
use Rattle.fast_import.proofs.branches.Branches.unset.Goals as goal

pub returns : goal.returns
returns c =
    ap head_values c.remove.ensures.entries
    ∙ removed-heads c.args.refname.now c.self.inside.heads.entries
    ∙ ap (λ (t : Refs). without_ref c.args.refname.now t) c.self.view_is
