-- Proves what src/hiding.rt needs of `shadow_of`.
use Rattle.std.proofs.Common.{◌∙◌, List, sym, subst}
use Rattle.decision_lists.specs.Entries.{Entry}
use Rattle.filter_text.specs.Shapes.{shape}
use Rattle.filter_routes.specs.Lists.{IsListOf}
use Rattle.filter_unapply.proofs.Shadows.{shows-none}
use Rattle.filter_unapply.proofs.hiding.shadow_of.Goals as goal

pub returns-then-is_apart : goal.returns-then-is_apart
returns-then-is_apart c =
    let f = shape c.args.table.now.filter in
    let list = subst (λ (es : List Entry). IsListOf f es) (sym c.entries.ensures.entries) c.entries.ensures.list in
    shows-none f c.entries.result.now c.in_ok-cone.cone.0 list (sym c.is_apart.ensures ∙ c.if-is_apart.true)
