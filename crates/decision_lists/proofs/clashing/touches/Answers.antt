use Rattle.std.proofs.Common.{arith, ◌++◌, ◌+◌, sym, ap, ◌∙◌, [], ◌∷◌, drop}
use Rattle.std.proofs.lemmas.List.{drop_more, drop_all}
use Rattle.decision_lists.specs.Entries.{at, below}
use Rattle.decision_lists.specs.Operations.{alive_in}
use Rattle.decision_lists.proofs.Testing.{touches-here, touches-later, alive-last}
use Rattle.decision_lists.proofs.clashing.touches.Goals as goal

pub returns-then-is_alive : goal.returns-then-is_alive
returns-then-is_alive c =
    let all = c.args.rest.now in
    let i = c.loop-c.c-index in
    let x = c.c-item.result in
    touches-here c.loop-c.front.items c.push.new.self.items c.args.holes.now x (drop (i + 1) all) (drop i all)
    (drop_more all i x c.loop-c-test.true ∙ ap (λ y. y ∷ drop (i + 1) all) (sym c.c-item.is))
    (c.in_ok-push.ensures.items ∙ ap (λ y. c.loop-c.front.items ++ y ∷ []) c.in_ok-copy.ensures)
    (sym c.if-is_alive.true ∙ c.is_alive.ensures ∙ ap (λ b. alive_in c.args.holes.now (at b)) c.as_slice.ensures.value)
    ∙ c.loop-c.invariant

pub loop-c-preserved : goal.loop-c-preserved
loop-c-preserved c =
    let all = c.args.rest.now in
    let i = c.loop-c.c-index in
    let x = c.c-item.result in
    touches-later c.loop-c.front.items c.push.new.self.items c.args.holes.now x (drop (i + 1) all) (drop i all)
    (drop_more all i x c.loop-c-test.true ∙ ap (λ y. y ∷ drop (i + 1) all) (sym c.c-item.is))
    (c.in_ok-push.ensures.items ∙ ap (λ y. c.loop-c.front.items ++ y ∷ []) c.in_ok-copy.ensures)
    (sym c.if-is_alive.false ∙ c.is_alive.ensures ∙ ap (λ b. alive_in c.args.holes.now (at b)) c.as_slice.ensures.value)
    ∙ c.loop-c.invariant

pub returns : goal.returns
returns c =
    let all = c.args.rest.now in
    let i = c.loop-c.c-index in
    alive-last c.loop-c.front.items c.args.holes.now c.is_alive-2.result (drop i all) (drop_all i all (omega arith))
    (c.is_alive-2.ensures ∙ ap (λ b. alive_in c.args.holes.now (below b)) c.as_slice-2.ensures.value)
    ∙ c.loop-c.invariant
