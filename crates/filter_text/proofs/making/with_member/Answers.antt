use Rattle.std.proofs.Common.{◌∙◌, ap, refl}
use Rattle.filter_text.specs.Filters.{append, only}
use Rattle.filter_text.specs.Shapes.{shapes}
use Rattle.filter_text.proofs.RowLists.{pushed}
use Rattle.filter_text.proofs.making.with_member.Goals as goal

pub returns : goal.returns
returns c = record {
  bracket = refl;
  before = refl;
  members =
      pushed c.args.frame.members.items _ _ c.in_ok-push.ensures.items
      ∙ ap (λ f. append (shapes c.args.frame.members.items) (only f)) c.in_ok-made.ensures;
}
