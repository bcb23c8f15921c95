-- Proves what src/tagging.rt needs of `retargeted_all`.
use Rattle.std.proofs.Common.{ap, ◌∙◌}
use Rattle.std.proofs.lemmas.Slice.Zip.{either_empty_from_Zip}
use Rattle.std.specs.Iterator.Adapters.{zip_first, zip_second}
use Rattle.std.specs.Slice.Iter.{iter_rest}
use Rattle.proj_commands.proofs.Retargeting.{going-end, going-first}
use Rattle.proj_commands.proofs.tagging.retargeted_all.Goals as goal

pub loop-tag-init : goal.loop-tag-init
loop-tag-init c =
    let gives = c.into_iter-tag-iterator.ensures.into_iter_gives in
    let zipped = c.zip-tag-items.ensures in
    going-first c.args.tags.now c.args.shown.now (iter_rest (zip_first c.into_iter-tag-iterator.result)) (iter_rest (zip_second c.into_iter-tag-iterator.result)) c.new-found.result.items
    (ap (λ i. iter_rest (zip_first i)) gives ∙ ap iter_rest zipped.first ∙ c.iter.ensures.rest) (ap (λ i. iter_rest (zip_second i)) gives ∙ zipped.second.0) c.new-found.ensures.items

pub returns : goal.returns
returns c =
    let i = c.loop-tag.tag-iterator in
    going-end c.args.tags.now c.args.shown.now (iter_rest (zip_first i)) (iter_rest (zip_second i)) c.loop-tag.found.items
    (either_empty_from_Zip i c.next.new.self c.next.result c.in-None.is c.next.ensures.steps) c.loop-tag.invariant
