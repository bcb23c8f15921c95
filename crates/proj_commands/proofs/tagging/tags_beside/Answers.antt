-- Proves what src/tagging.rt needs of `tags_beside`.
use Rattle.std.proofs.Common.{Bool, sym, subst}
use Rattle.std.specs.Prelude.{◌≡◌, IfOk}
use Rattle.filter_text.specs.Shapes.{shape}
use Rattle.projection_ground.specs.Grounds.{Extends}
use Rattle.proj_commands.specs.Export.{IsMadeBeside, tags_beside}
use Rattle.proj_commands.proofs.tagging.tags_beside.Goals as goal

pub returns-then-tagged-clause-ok : goal.returns-then-tagged-clause-ok
returns-then-tagged-clause-ok c = λ items h w.
    subst (λ (b : Bool). IfOk c.shown_tags.result (λ ts. ts.items ≡ tags_beside b h (shape c.args.filter.now) c.args.head.now.0)) (sym c.if-tagged.true) (c.shown_tags.ensures.ok items h w)

pub returns-then-tagged-clause-same : goal.returns-then-tagged-clause-same
returns-then-tagged-clause-same c =
    subst (λ (b : Bool). Extends (IsMadeBeside b (shape c.args.filter.now) c.args.state.now.basis c.args.head.now.0) c.args.state.now.basis c.shown_tags.new.state.basis) (sym c.if-tagged.true) c.shown_tags.ensures.same
