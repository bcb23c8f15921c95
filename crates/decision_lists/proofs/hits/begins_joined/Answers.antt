use Rattle.std.proofs.Common.{arith, ◌≤◌, ◌&&◌, sym, ap, ◌∙◌, length, is_some, drop}
use Rattle.decision_lists.specs.Fronts.{strip}
use Rattle.decision_lists.proofs.Locating.{strip-front, strip-both, strip-rest}
use Rattle.decision_lists.proofs.hits.begins_joined.Goals as goal

pub returns-then-front-base : goal.returns-then-front-base
returns-then-front-base c = c.begins.ensures ∙ sym (strip-front c.args.front.now c.args.base.now c.args.rest.now c.if-front-base.true)

pub returns-then-begins : goal.returns-then-begins
returns-then-begins c =
    let f = c.args.front.now in
    let b = c.args.base.now in
    let r = c.args.rest.now in
    let l : length b ≤ length f = omega (arith, c.if-front-base.false) in
    c.begins-then-begins.ensures ∙ strip-rest f b r l
    ∙ ap (λ x. x && is_some (strip (drop (length b) f) r)) (sym c.if-begins.true ∙ c.begins-2.ensures)
    ∙ sym (strip-both f b r l)

pub returns-else-begins : goal.returns-else-begins
returns-else-begins c =
    let f = c.args.front.now in
    let b = c.args.base.now in
    let r = c.args.rest.now in
    let l : length b ≤ length f = omega (arith, c.if-front-base.false) in
    c.if-begins.false
    ∙ ap (λ x. x && is_some (strip (drop (length b) f) r)) (sym c.if-begins.false ∙ c.begins-2.ensures)
    ∙ sym (strip-both f b r l)
