use Rattle.std.proofs.Common.{sym, ap, ◌∙◌}
use Rattle.std.specs.List.{list_any}
use Rattle.git_objects.specs.Paths.{same_bytes}
use Rattle.proj_audit.specs.Steps.{needed_values}
use Rattle.proj_audit.specs.declared.objects.Needed.{Needed}
use Rattle.proj_audit.proofs.Steps.{noted, noted-new}
use Rattle.proj_audit.proofs.walking.note.Goals as goal

pub returns-then-is_among : goal.returns-then-is_among
returns-then-is_among c =
    noted c.args.used.now.items c.args.needed
    (ap (list_any (λ (k : Needed). same_bytes k.name.0 c.args.needed.name.0)) (sym c.deref.ensures.value) ∙ sym c.is_among.ensures
    ∙ c.if-is_among.true)

pub returns : goal.returns
returns c =
    ap needed_values c.in_ok-push.ensures.items
    ∙ noted-new c.args.used.now.items c.args.needed
    (ap (list_any (λ (k : Needed). same_bytes k.name.0 c.args.needed.name.0)) (sym c.deref.ensures.value) ∙ sym c.is_among.ensures
    ∙ c.if-is_among.false)
