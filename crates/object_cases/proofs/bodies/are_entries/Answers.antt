use Rattle.std.proofs.Common.{sym, ap, ◌∙◌}
use Rattle.std.specs.Option.{is_some}
use Rattle.git_objects.specs.Bodies.{tree_entries}
use Rattle.git_objects.proofs.TreeReading.{read_entries}
use Rattle.object_cases.proofs.bodies.are_entries.Goals as goal

pub returns : goal.returns
returns c =
    λ h. read_entries c.args.entries.now c.in_ok-body.ensures.components c.in_ok-body.ensures.names
    (ap (λ b. is_some (tree_entries b)) (sym (c.deref.ensures.value ∙ c.in_ok-body.ensures.body)) ∙ ap is_some (sym c.of.ensures) ∙ sym c.is_some.ensures ∙ h)
