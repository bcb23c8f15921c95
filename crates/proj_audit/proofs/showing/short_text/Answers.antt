use Rattle.std.proofs.Common.{◌∙◌, ap, sym}
use Rattle.std.specs.Option.{option_map}
use Rattle.workspace.specs.Workspaces.{with_leaf}
use Rattle.proj_audit.specs.Shown.{items_value}
use Rattle.proj_audit.proofs.LongTexts.{long_text}
use Rattle.proj_audit.proofs.showing.short_text.Goals as goal

pub returns-then-text-gt-WORKSPACE_BYTES : goal.returns-then-text-gt-WORKSPACE_BYTES
returns-then-text-gt-WORKSPACE_BYTES c f =
    long_text c.in_ok-text.text c.if-text-gt-WORKSPACE_BYTES.true f
    ∙ ap (λ x. with_leaf f (option_map items_value x)) (sym c.in_ok-text.was)
