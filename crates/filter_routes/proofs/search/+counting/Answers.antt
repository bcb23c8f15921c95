use Rattle.std.proofs.Common.{rules, arith, ◌≡◌, ◌<◌, ◌+◌, ◌^◌, ◌∷◌, sym, ap, ◌∙◌, drop}
use Rattle.std.proofs.lemmas.List.{drop_more}
use Rattle.filter_text.specs.Filters as plain
use Rattle.filter_text.specs.Filters.{pieces, pieces_in}
use Rattle.filter_text.specs.Shapes.{shape, shapes}
use Rattle.filter_text.proofs.RowLists.{shape-join, shape-chain, row-list}
use Rattle.filter_text.specs.declared.filter.Filter.TheViews.{the_lemmas}
use Rattle.filter_routes.proofs.search.+counting.Goals as goal

pub past_pieces-past_pieces_in-requires : goal.past_pieces-past_pieces_in-requires
past_pieces-past_pieces_in-requires t c =
    let told : shape c.args.filter.now ≡ plain.join (shapes c.as_slice.result.now) =
    ap shape c.in-Join.is ∙ shape-join c.in-Join.members ∙ ap (λ xs. plain.join (shapes xs)) (sym c.as_slice.ensures.value) in
    let room : c.args.number + 1 + pieces_in (shapes c.as_slice.result.now) < 2 ^ 64 = omega (arith, c.requires, ap pieces told) in
    (search (rules, the_lemmas, row-list), room)

pub past_pieces-past_pieces_in-requires-in-Chain : goal.past_pieces-past_pieces_in-requires-in-Chain
past_pieces-past_pieces_in-requires-in-Chain t c =
    let told : shape c.args.filter.now ≡ plain.chain (shapes c.as_slice-in-Chain.result.now) =
    ap shape c.in-Chain.is ∙ shape-chain c.in-Chain.members ∙ ap (λ xs. plain.chain (shapes xs)) (sym c.as_slice-in-Chain.ensures.value) in
    let room : c.args.number + pieces_in (shapes c.as_slice-in-Chain.result.now) < 2 ^ 64 = omega (arith, c.requires, ap pieces told) in
    (search (rules, the_lemmas, row-list), room)

pub past_pieces-returns-in-Join : goal.past_pieces-returns-in-Join
past_pieces-returns-in-Join t c =
    let told : shape c.args.filter.now ≡ plain.join (shapes c.as_slice.result.now) =
    ap shape c.in-Join.is ∙ shape-join c.in-Join.members ∙ ap (λ xs. plain.join (shapes xs)) (sym c.as_slice.ensures.value) in
    omega (arith, c.past_pieces_in.ensures, ap pieces told)

pub past_pieces-returns-in-Chain : goal.past_pieces-returns-in-Chain
past_pieces-returns-in-Chain t c =
    let told : shape c.args.filter.now ≡ plain.chain (shapes c.as_slice-in-Chain.result.now) =
    ap shape c.in-Chain.is ∙ shape-chain c.in-Chain.members ∙ ap (λ xs. plain.chain (shapes xs)) (sym c.as_slice-in-Chain.ensures.value) in
    omega (arith, c.past_pieces_in-in-Chain.ensures, ap pieces told)

pub past_pieces_in-past_pieces-number-requires : goal.past_pieces_in-past_pieces-number-requires
past_pieces_in-past_pieces-number-requires t c =
    let ms = c.args.members.now in
    let i = c.loop-m.m-index in
    let m = c.m-item.result in
    let split = drop_more ms i m c.loop-m-test.true ∙ ap (λ x. x ∷ drop (i + 1) ms) (sym c.m-item.is) in
    let room : c.loop-m.number + pieces (shape m) < 2 ^ 64 =
    omega (arith, c.loop-m.invariant, c.requires, ap (λ xs. pieces_in (shapes xs)) split) in
    (search (rules, the_lemmas, row-list), room)
