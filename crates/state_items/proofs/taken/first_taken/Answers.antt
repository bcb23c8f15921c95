use Rattle.std.proofs.Common.{◌≡◌, ◌+◌, true, false, ◌∷◌, None, drop, sym, ap, ◌∙◌}
use Rattle.std.proofs.lemmas.List.{drop_more}
use Rattle.tag_objects.specs.TagLists.{first_taken, rise}
use Rattle.state_items.proofs.TagWalks.{from-rises, rest-rises}
use Rattle.state_items.proofs.TakenTags.{walked}
use Rattle.state_items.proofs.taken.first_taken.Goals as goal

pub returns-then-has_other : goal.returns-then-has_other
returns-then-has_other c =
    let t = c.tag-item.result in
    let us = c.loop-tag.rest.now in
    let vs = c.from_name-rest.result.now in
    let ts = drop (c.loop-tag.tag-index + 1) c.args.tags.now in
    let next : drop c.loop-tag.tag-index c.args.tags.now ≡ t ∷ ts = drop_more c.args.tags.now c.loop-tag.tag-index t c.loop-tag-test.true ∙ ap (λ u. u ∷ ts) (sym c.tag-item.is) in
    let rising : rise None (t ∷ ts) ≡ true = ap (rise None) (sym next) ∙ c.loop-tag.invariant.rising in
    sym (walked t us vs ts true c.loop-tag.invariant.held rising c.from_name-rest.ensures (sym c.if-has_other.true ∙ c.has_other.ensures))
    ∙ ap (first_taken us) (sym next)
    ∙ c.loop-tag.invariant.found

pub loop-tag-preserved : goal.loop-tag-preserved
loop-tag-preserved c =
    let t = c.tag-item.result in
    let us = c.loop-tag.rest.now in
    let vs = c.from_name-rest.result.now in
    let ts = drop (c.loop-tag.tag-index + 1) c.args.tags.now in
    let next : drop c.loop-tag.tag-index c.args.tags.now ≡ t ∷ ts = drop_more c.args.tags.now c.loop-tag.tag-index t c.loop-tag-test.true ∙ ap (λ u. u ∷ ts) (sym c.tag-item.is) in
    let rising : rise None (t ∷ ts) ≡ true = ap (rise None) (sym next) ∙ c.loop-tag.invariant.rising in
    record {
      found = sym (walked t us vs ts false c.loop-tag.invariant.held rising c.from_name-rest.ensures (sym c.if-has_other.false ∙ c.has_other.ensures))
          ∙ ap (first_taken us) (sym next)
          ∙ c.loop-tag.invariant.found;
      held = ap (rise None) c.from_name-rest.ensures ∙ from-rises t.name us c.loop-tag.invariant.held;
      rising = rest-rises t ts rising;
    }
