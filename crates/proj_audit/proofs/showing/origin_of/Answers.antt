use Rattle.std.proofs.Common.{◌∙◌, ◌++◌, ap, subst, Some, None, drop}
use Rattle.decision_lists.specs.Hits.{onto_rest, source_hit}
use Rattle.filter_text.specs.Shapes.{shape}
use Rattle.filter_routes.specs.Tables.{IsOrigin}
use Rattle.workspace.proofs.Sources.{origin-is}
use Rattle.workspace.proofs.Splits.{from-place}
use Rattle.proj_audit.proofs.showing.origin_of.Goals as goal

pub returns-in-None : goal.returns-in-None
returns-in-None c =
    let t = c.args.table.now in
    let q = c.args.image.now in
    origin-is (shape t.filter) q None c.requires c.components-components.ensures.path
    (subst (λ h. IsOrigin (shape t.filter) q (source_hit t.routes h q)) c.in-None.is c.origin.ensures.source)

pub returns-in_ok-of_parts-in-Some : goal.returns-in_ok-of_parts-in-Some
returns-in_ok-of_parts-in-Some c =
    let t = c.args.table.now in
    let q = c.args.image.now in
    ap Some (c.in_ok-of_parts-in-Some.ensures
    ∙ ap (λ p. c.source-source.result.now ++ p) (from-place c.components-components.result.now c.in-Some.hit.cut)
    ∙ ap (λ p. c.source-source.result.now ++ drop c.in-Some.hit.cut p) c.components-components.ensures.components)
    ∙ ap (λ o. onto_rest o (drop c.in-Some.hit.cut q)) c.source-source.ensures
    ∙ origin-is (shape t.filter) q (source_hit t.routes (Some c.in-Some.hit) q) c.requires c.components-components.ensures.path
    (subst (λ h. IsOrigin (shape t.filter) q (source_hit t.routes h q)) c.in-Some.is c.origin.ensures.source)
