use Rattle.std.proofs.Common.{rules, arith, ◌≡◌, ◌<◌, ◌+◌, ◌^◌, ◌∷◌, ◌++◌, sym, ap, ◌∙◌, subst, drop, take, false, Ok, Err}
use Rattle.std.proofs.lemmas.List.{drop_more, take_all}
use Rattle.filter_text.specs.Filters as plain
use Rattle.filter_text.specs.Filters.{pieces, pieces_in}
use Rattle.filter_text.specs.Shapes.{shape, shapes}
use Rattle.filter_text.proofs.RowLists.{shape-join, shape-chain, row-list}
use Rattle.filter_text.specs.declared.filter.Filter.TheViews.{the_lemmas}
use Rattle.filter_routes.specs.Faults.{nodes, nodes_all}
use Rattle.filter_routes.specs.Searching.{Searched}
use Rattle.filter_routes.proofs.Finding.{searched-exclude, searched-join, searched-pair, searched-app, searched-front, nodes-append, nodes-next}
use Rattle.filter_routes.proofs.Members.{members-split, members-next}
use Rattle.filter_routes.proofs.Walking.{nodes-count}
use Rattle.filter_routes.proofs.search.+searching.Goals as goal

pub first_overlap-returns-in-Err : goal.first_overlap-returns-in-Err
first_overlap-returns-in-Err t c =
    let told : shape c.args.filter.now ≡ plain.join (shapes c.as_slice-members.result.now) =
    ap shape c.in-Join.is ∙ shape-join c.in-Join.members ∙ ap (λ xs. plain.join (shapes xs)) (sym c.as_slice-members.ensures.value) in
    subst (λ f. Searched c.args.number (nodes false f) (Err c.in-Err.fault)) (sym told)
    (searched-pair c.args.number (shapes c.as_slice-members.result.now) c.in-Err.fault c.in-Err.ensures.pair)

pub first_overlap-first_overlap_in-requires : goal.first_overlap-first_overlap_in-requires
first_overlap-first_overlap_in-requires t c =
    let told : shape c.args.filter.now ≡ plain.join (shapes c.as_slice-members.result.now) =
    ap shape c.in-Join.is ∙ shape-join c.in-Join.members ∙ ap (λ xs. plain.join (shapes xs)) (sym c.as_slice-members.ensures.value) in
    let room : c.args.number + 1 + pieces_in (shapes c.as_slice-members.result.now) < 2 ^ 32 = omega (arith, c.requires, ap pieces told) in
    (search (rules, the_lemmas, row-list), room)

pub first_overlap-first_overlap_in-requires-in-Chain : goal.first_overlap-first_overlap_in-requires-in-Chain
first_overlap-first_overlap_in-requires-in-Chain t c =
    let told : shape c.args.filter.now ≡ plain.chain (shapes c.as_slice.result.now) =
    ap shape c.in-Chain.is ∙ shape-chain c.in-Chain.members ∙ ap (λ xs. plain.chain (shapes xs)) (sym c.as_slice.ensures.value) in
    let room : c.args.number + pieces_in (shapes c.as_slice.result.now) < 2 ^ 32 = omega (arith, c.requires, ap pieces told) in
    (search (rules, the_lemmas, row-list), room)

pub first_overlap-returns-in-Exclude : goal.first_overlap-returns-in-Exclude
first_overlap-returns-in-Exclude t c =
    let g = shape c.deref.result.now in
    let told : shape c.args.filter.now ≡ plain.exclude g = search (rules, the_lemmas) in
    subst (λ f. Searched c.args.number (nodes false f) (Ok c.past_pieces.result)) (sym told)
    (searched-exclude c.args.number c.past_pieces.result g c.past_pieces.ensures)

pub first_overlap-returns-in-Ok : goal.first_overlap-returns-in-Ok
first_overlap-returns-in-Ok t c =
    let told : shape c.args.filter.now ≡ plain.join (shapes c.as_slice-members.result.now) =
    ap shape c.in-Join.is ∙ shape-join c.in-Join.members ∙ ap (λ xs. plain.join (shapes xs)) (sym c.as_slice-members.ensures.value) in
    subst (λ f. Searched c.args.number (nodes false f) c.first_overlap_in.result) (sym told)
    (searched-join c.args.number (shapes c.as_slice-members.result.now) c.first_overlap_in.result c.in-Ok.ensures.apart c.first_overlap_in.ensures)

pub first_overlap-returns-in-Chain : goal.first_overlap-returns-in-Chain
first_overlap-returns-in-Chain t c =
    let told : shape c.args.filter.now ≡ plain.chain (shapes c.as_slice.result.now) =
    ap shape c.in-Chain.is ∙ shape-chain c.in-Chain.members ∙ ap (λ xs. plain.chain (shapes xs)) (sym c.as_slice.ensures.value) in
    subst (λ f. Searched c.args.number (nodes false f) c.first_overlap_in-in-Chain.result) (sym told) c.first_overlap_in-in-Chain.ensures

pub first_overlap_in-returns-in-Err : goal.first_overlap_in-returns-in-Err
first_overlap_in-returns-in-Err t c =
    let ms = c.args.members.now in
    let i = c.loop-m.m-index in
    let m = c.m-item.result in
    let n = c.loop-m.number in
    let rest = nodes_all false (shapes (drop (i + 1) ms)) in
    subst (λ fs. Searched c.args.number (nodes_all false fs) (Err c.in-Err.fault)) (sym (members-split ms i m c.loop-m-test.true c.m-item.is))
    (subst (λ vs. Searched c.args.number vs (Err c.in-Err.fault)) (sym (nodes-append false (shapes (take i ms)) (plain.more (shape m) (shapes (drop (i + 1) ms)))))
    (searched-app c.args.number n (nodes_all false (shapes (take i ms))) (nodes false (shape m) ++ rest) (Err c.in-Err.fault) c.loop-m.invariant.0
    (searched-front n (nodes false (shape m)) rest c.in-Err.fault (subst (Searched n (nodes false (shape m))) c.in-Err.is c.first_overlap.ensures))))

pub first_overlap_in-loop-m-preserved : goal.first_overlap_in-loop-m-preserved
first_overlap_in-loop-m-preserved t c =
    let ms = c.args.members.now in
    let i = c.loop-m.m-index in
    let m = c.m-item.result in
    let n = c.loop-m.number in
    let h : Searched n (nodes false (shape m)) (Ok c.in-Ok.next) = subst (Searched n (nodes false (shape m))) c.in-Ok.is c.first_overlap.ensures in
    let split = drop_more ms i m c.loop-m-test.true ∙ ap (λ x. x ∷ drop (i + 1) ms) (sym c.m-item.is) in (
      subst (λ fs. Searched c.args.number (nodes_all false fs) (Ok c.in-Ok.next)) (sym (members-next ms i m c.loop-m-test.true c.m-item.is))
          (subst (λ vs. Searched c.args.number vs (Ok c.in-Ok.next)) (sym (nodes-next false (shapes (take i ms)) (shape m)))
          (searched-app c.args.number n (nodes_all false (shapes (take i ms))) (nodes false (shape m)) (Ok c.in-Ok.next) c.loop-m.invariant.0 h)),
      omega (arith, h.0, nodes-count false (shape m), c.loop-m.invariant.1, ap (λ xs. pieces_in (shapes xs)) split),
    )

pub first_overlap_in-returns : goal.first_overlap_in-returns
first_overlap_in-returns t c =
    subst (λ xs. Searched c.args.number (nodes_all false (shapes xs)) (Ok c.loop-m.number))
    (take_all c.loop-m.m-index c.args.members.now c.loop-m-test.false) c.loop-m.invariant.0
