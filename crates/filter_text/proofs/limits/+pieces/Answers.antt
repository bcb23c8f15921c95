use Rattle.std.proofs.Common.{rules, ◌∙◌, ap, sym}
use Rattle.filter_text.specs.Filters.{pieces, pieces_in}
use Rattle.filter_text.specs.Shapes.{shape, shapes}
use Rattle.filter_text.specs.Limits.{without}
use Rattle.filter_text.proofs.RowLists.{row-list, shape-join}
use Rattle.filter_text.proofs.Rooms.{without-add}
use Rattle.filter_text.specs.declared.filter.Filter.TheViews.{the_lemmas}
use Rattle.filter_text.proofs.limits.+pieces.Goals as goal

pub without_pieces-returns-in-Some-without : goal.without_pieces-returns-in-Some-without
without_pieces-returns-in-Some-without t c =
    let r = c.in-Some-without.room in
    let room = c.args.room in
    c.without_pieces_in.ensures ∙ ap (λ xs. without r (pieces_in (shapes xs))) c.as_slice.ensures.value
    ∙ without-add 1 (pieces_in (shapes c.in-Join.members.items)) room r c.in-Some-without.ensures
    ∙ sym (ap (λ f. without room (pieces (shape f))) c.in-Join.is ∙ ap (λ f. without room (pieces f)) (shape-join c.in-Join.members))

pub without_pieces-returns-in-Chain : goal.without_pieces-returns-in-Chain
without_pieces-returns-in-Chain t c = search (rules, the_lemmas, row-list)
