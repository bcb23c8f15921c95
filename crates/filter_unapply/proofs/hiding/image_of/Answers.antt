use Rattle.std.proofs.Common.{◌<◌, ◌+◌, ◌-◌, drop, take, length, sym, ap, subst, ◌∙◌}
use Rattle.git_objects.specs.Paths.{Path}
use Rattle.decision_lists.specs.Hits.{onto_rest}
use Rattle.filter_text.specs.Shapes.{shape}
use Rattle.filter_unapply.proofs.Hidings.{all-behind, image-long}
use Rattle.filter_unapply.proofs.hiding.image_of.Goals as goal

pub of_parts-requires : goal.of_parts-requires
of_parts-requires c =
    let p = c.args.path.now in
    let n = c.args.hit.now.cut in
    let t = c.target.result.now in
    let e = ap (λ o. onto_rest o (drop n p)) c.target.ensures ∙ c.requires.hit in
    let long = image-long (shape c.args.table.now.filter) p t n c.table_law.ensures.paths c.components.ensures.path e in
    subst (λ (q : Path). 0 < length t + length (take (length q - n) (drop n q))) (sym c.components.ensures.components)
    (subst (λ (r : Path). 0 < length t + length r) (sym (all-behind p n)) long)
