use Rattle.std.proofs.Common.{◌≡◌, true, false, ◌++◌, ◌∷◌, [], List, None, length, sym, ap, ◌∙◌, append_assoc, arith}
use Rattle.std.specs.Vec.Iter.{into_iter_items}
use Rattle.tag_objects.specs.TagLists.{changed, rise}
use Rattle.tag_objects.specs.declared.tag.Tag.{Tag}
use Rattle.state_items.proofs.TagWalks.{from-rises, rest-rises, walked}
use Rattle.state_items.proofs.tags.changed_tags.Goals as goal

pub loop-tag-preserved : goal.loop-tag-preserved
loop-tag-preserved c =
    let h = c.in-Some.ensures.steps in
    let t = c.in-Some.tag in
    let us = c.loop-tag.rest.now in
    let vs = c.from_name-rest.result.now in
    let ts = into_iter_items c.next.new.self in
    let rising : rise None (t ∷ ts) ≡ true = ap (rise None) (sym h.0) ∙ c.loop-tag.invariant.rising in
    record {
      whole = ap (λ (xs : List Tag). xs ++ changed vs ts) c.in_ok-push.ensures.items
          ∙ append_assoc c.loop-tag.news.items (t ∷ []) (changed vs ts)
          ∙ ap (λ (xs : List Tag). c.loop-tag.news.items ++ xs) (sym (walked t us vs ts true c.loop-tag.invariant.held rising c.from_name-rest.ensures (sym c.if-not-is_new.false ∙ c.is_new.ensures)) ∙ ap (changed us) (sym h.0))
          ∙ c.loop-tag.invariant.whole;
      held = ap (rise None) c.from_name-rest.ensures ∙ from-rises t.name us c.loop-tag.invariant.held;
      rising = rest-rises t ts rising;
      len = omega (arith, h.1, ap length h.0, c.loop-tag.invariant.len);
    }

pub loop-tag-preserved-then-not-is_new : goal.loop-tag-preserved-then-not-is_new
loop-tag-preserved-then-not-is_new c =
    let h = c.in-Some.ensures.steps in
    let t = c.in-Some.tag in
    let us = c.loop-tag.rest.now in
    let vs = c.from_name-rest.result.now in
    let ts = into_iter_items c.next.new.self in
    let rising : rise None (t ∷ ts) ≡ true = ap (rise None) (sym h.0) ∙ c.loop-tag.invariant.rising in
    record {
      whole = ap (λ (xs : List Tag). c.loop-tag.news.items ++ xs) (sym (walked t us vs ts false c.loop-tag.invariant.held rising c.from_name-rest.ensures (sym c.if-not-is_new.true ∙ c.is_new.ensures)) ∙ ap (changed us) (sym h.0))
          ∙ c.loop-tag.invariant.whole;
      held = ap (rise None) c.from_name-rest.ensures ∙ from-rises t.name us c.loop-tag.invariant.held;
      rising = rest-rises t ts rising;
      len = omega (arith, h.1, ap length h.0, c.loop-tag.invariant.len);
    }
