use Rattle.std.proofs.Common.{◌++◌, ◌∷◌, [], ◌∙◌, ap, sym, length}
use Rattle.filter_text.specs.Shapes.{shapes}
use Rattle.filter_text.specs.Printing.{printed_members, printed_pieces}
use Rattle.filter_text.proofs.Prints.{on_ok, on_ok_if, join-text, chain-text, inside-one-text, inside-other-text, list-put}
use Rattle.filter_text.proofs.printing.+printing.Goals as goal

pub add_filter-returns-in_ok-add_members-in-Join : goal.add_filter-returns-in_ok-add_members-in-Join
add_filter-returns-in_ok-add_members-in-Join t c =
    let out = c.args.out.now.items in
    let ms = c.in-Join.members.items in
    on_ok_if c.extend_from_slice-in-Join-2.result _ _ _ _
    ((λ i. c.in_ok-add_members-in-Join.ensures i ++ 93 ∷ [])
    ∙ (λ i. (c.in_ok-extend_from_slice-in-Join.ensures.items i ++ printed_members (shapes (c.as_slice.ensures.value i))) ++ 93 ∷ [])
    ∙ list-put out (printed_members (shapes ms))
    ∙ ap (λ x. out ++ x) (sym (join-text c.args.filter.now c.in-Join.members c.in-Join.is)))
    c.extend_from_slice-in-Join-2.ensures.items

pub add_filter-returns-in-Chain : goal.add_filter-returns-in-Chain
add_filter-returns-in-Chain t c =
    let out = c.args.out.now.items in
    on_ok c.add_pieces.result _ _ _
    (ap (λ xs. out ++ printed_pieces (shapes xs)) c.as_slice-in-Chain.ensures.value
    ∙ ap (λ x. out ++ x) (sym (chain-text c.args.filter.now c.in-Chain.members c.in-Chain.is)))
    c.add_pieces.ensures

pub add_inside-returns-then-as_slice-eq1 : goal.add_inside-returns-then-as_slice-eq1
add_inside-returns-then-as_slice-eq1 t c =
    let out = c.args.out.now.items in
    on_ok c.add_filter.result _ _ _
    (ap (λ x. out ++ x) (sym (inside-one-text c.args.filter.now c.in-Join.members c.in-Join.is (ap length (sym c.as_slice.ensures.value) ∙ c.if-as_slice-eq1.true))))
    c.add_filter.ensures

pub add_inside-returns-else-as_slice-eq1 : goal.add_inside-returns-else-as_slice-eq1
add_inside-returns-else-as_slice-eq1 t c =
    let out = c.args.out.now.items in
    on_ok c.add_members.result _ _ _
    (ap (λ xs. out ++ printed_members (shapes xs)) c.as_slice-in-Join.ensures.value
    ∙ ap (λ x. out ++ x) (sym (inside-other-text c.args.filter.now c.in-Join.members c.in-Join.is (λ e. c.if-as_slice-eq1.false (ap length c.as_slice.ensures.value ∙ e)))))
    c.add_members.ensures
