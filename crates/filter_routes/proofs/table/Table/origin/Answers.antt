use Rattle.std.proofs.Common.{◌≡◌, [], subst}
use Rattle.filter_text.specs.Shapes.{shape}
use Rattle.decision_lists.specs.Cells.{cells, origin}
use Rattle.decision_lists.specs.Hits.{source_hit}
use Rattle.filter_routes.specs.Tables.{IsOrigin}
use Rattle.filter_routes.proofs.ImagePaths.{origin-told}
use Rattle.filter_routes.proofs.table.Table.origin.Goals as goal

pub returns-clause-source : goal.returns-clause-source
returns-clause-source c =
    let q = c.args.image.now in
    let h = c.locate_origin.result in
    let es = c.self.inside.entries.items in
    let found : source_hit es h q ≡ origin (cells [] es) q =
    subst (λ x. source_hit es h x ≡ origin (cells [] es) x) c.components.ensures.components
    (subst (λ x. source_hit x h c.components.result.now ≡ origin (cells [] x) c.components.result.now) c.as_slice.ensures.value c.locate_origin.ensures.source) in
    subst (λ v. IsOrigin (shape v.filter) q (source_hit v.routes h q)) c.self.view_is
    (origin-told (shape c.self.inside.filter) es q (source_hit es h q) c.self.invariant.list c.components.ensures.path found)
