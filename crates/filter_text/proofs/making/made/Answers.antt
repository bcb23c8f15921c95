use Rattle.std.proofs.Common.{◌∙◌, ap, sym}
use Rattle.filter_text.specs.Shapes.{shapes}
use Rattle.filter_text.specs.Reading.{linked, made}
use Rattle.filter_text.proofs.RowLists.{pushed}
use Rattle.filter_text.proofs.making.made.Goals as goal

pub returns-in_ok-push-in-Some : goal.returns-in_ok-push-in-Some
returns-in_ok-push-in-Some c =
    c.linked-in-Some.ensures
    ∙ ap linked (pushed c.args.pieces.items _ _ c.in_ok-push-in-Some.ensures.items)
    ∙ sym (ap (λ t. made t (shapes c.args.pieces.items)) c.in-Some.is)
