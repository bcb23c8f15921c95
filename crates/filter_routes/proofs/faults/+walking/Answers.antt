use Rattle.std.proofs.Common.{rules, arith, ◌≡◌, ◌<◌, ◌+◌, ◌^◌, ◌∷◌, sym, ap, ◌∙◌, drop}
use Rattle.std.proofs.lemmas.List.{drop_more}
use Rattle.filter_text.specs.Filters as plain
use Rattle.filter_text.specs.Filters.{pieces, pieces_in}
use Rattle.filter_text.specs.Shapes.{shape, shapes}
use Rattle.filter_text.proofs.RowLists.{shape-join, shape-chain, row-list}
use Rattle.filter_text.specs.declared.filter.Filter.TheViews.{the_lemmas}
use Rattle.filter_routes.specs.Faults.{nodes, nodes_all, walk}
use Rattle.filter_routes.proofs.Walking.{walk_on, walk-app, join-walk, ok-ends}
use Rattle.filter_routes.proofs.faults.+walking.Goals as goal

pub not_keeping-not_keeping_in-requires : goal.not_keeping-not_keeping_in-requires
not_keeping-not_keeping_in-requires t c =
    let told : shape c.args.filter.now ≡ plain.join (shapes c.as_slice.result.now) =
    ap shape c.in-Join.is ∙ shape-join c.in-Join.members ∙ ap (λ xs. plain.join (shapes xs)) (sym c.as_slice.ensures.value) in
    let room : c.args.number + 1 + pieces_in (shapes c.as_slice.result.now) < 2 ^ 64 = omega (arith, c.requires, ap pieces told) in
    (search (rules, the_lemmas, row-list), room)

pub not_keeping-not_keeping_in-requires-in-Chain : goal.not_keeping-not_keeping_in-requires-in-Chain
not_keeping-not_keeping_in-requires-in-Chain t c =
    let told : shape c.args.filter.now ≡ plain.chain (shapes c.as_slice-in-Chain.result.now) =
    ap shape c.in-Chain.is ∙ shape-chain c.in-Chain.members ∙ ap (λ xs. plain.chain (shapes xs)) (sym c.as_slice-in-Chain.ensures.value) in
    let room : c.args.number + pieces_in (shapes c.as_slice-in-Chain.result.now) < 2 ^ 64 = omega (arith, c.requires, ap pieces told) in
    (search (rules, the_lemmas, row-list), room)

pub not_keeping-returns-in-Join : goal.not_keeping-returns-in-Join
not_keeping-returns-in-Join t c =
    c.not_keeping_in.ensures ∙ join-walk c.args.inside c.args.number (shapes c.as_slice.result.now)
    ∙ ap (λ f. walk c.args.number (nodes c.args.inside f))
    (sym (ap shape c.in-Join.is ∙ shape-join c.in-Join.members ∙ ap (λ xs. plain.join (shapes xs)) (sym c.as_slice.ensures.value)))

pub not_keeping-returns-in-Chain : goal.not_keeping-returns-in-Chain
not_keeping-returns-in-Chain t c =
    c.not_keeping_in-in-Chain.ensures
    ∙ ap (λ f. walk c.args.number (nodes c.args.inside f))
    (sym (ap shape c.in-Chain.is ∙ shape-chain c.in-Chain.members ∙ ap (λ xs. plain.chain (shapes xs)) (sym c.as_slice-in-Chain.ensures.value)))

pub not_keeping_in-returns-in-Err : goal.not_keeping_in-returns-in-Err
not_keeping_in-returns-in-Err t c =
    let ms = c.args.members.now in
    let i = c.loop-m.m-index in
    let m = c.m-item.result in
    let inside = c.args.inside in
    let n = c.loop-m.number in
    let rest = nodes_all inside (shapes (drop (i + 1) ms)) in
    ap (λ o. walk_on o rest) (sym c.in-Err.is ∙ c.not_keeping.ensures)
    ∙ sym (walk-app n (nodes inside (shape m)) rest)
    ∙ ap (λ xs. walk n (nodes_all inside (shapes xs))) (sym (drop_more ms i m c.loop-m-test.true ∙ ap (λ x. x ∷ drop (i + 1) ms) (sym c.m-item.is)))
    ∙ c.loop-m.invariant.0

pub not_keeping_in-loop-m-preserved : goal.not_keeping_in-loop-m-preserved
not_keeping_in-loop-m-preserved t c =
    let ms = c.args.members.now in
    let i = c.loop-m.m-index in
    let m = c.m-item.result in
    let inside = c.args.inside in
    let n = c.loop-m.number in
    let rest = nodes_all inside (shapes (drop (i + 1) ms)) in
    let split = drop_more ms i m c.loop-m-test.true ∙ ap (λ x. x ∷ drop (i + 1) ms) (sym c.m-item.is) in (
      ap (λ o. walk_on o rest) (sym c.in-Ok.is ∙ c.not_keeping.ensures)
          ∙ sym (walk-app n (nodes inside (shape m)) rest)
          ∙ ap (λ xs. walk n (nodes_all inside (shapes xs))) (sym split)
          ∙ c.loop-m.invariant.0,
      omega (arith, c.loop-m.invariant.1, ap (λ xs. pieces_in (shapes xs)) split, ok-ends inside (shape m) n c.in-Ok.next (sym c.in-Ok.is ∙ c.not_keeping.ensures)),
    )
