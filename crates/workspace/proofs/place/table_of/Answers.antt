use Rattle.std.proofs.Common.{◌≡◌, ◌∙◌, ap, sym, subst, IfNone, IfSome}
use Rattle.filter_text.specs.Filters.{append, chain}
use Rattle.filter_text.specs.Shapes.{shape, shapes}
use Rattle.filter_text.specs.declared.filter.Filter.{Chain}
use Rattle.filter_text.proofs.RowLists.{shape-chain}
use Rattle.filter_routes.specs.Soundness.{IsSound}
use Rattle.filter_routes.specs.Tables.{IsTableOf}
use Rattle.filter_routes.specs.TableValues.{Table}
use Rattle.workspace.proofs.place.table_of.Goals as goal

pub unreachable-requires : goal.unreachable-requires
unreachable-requires c =
    let copied : shape (Chain c.add_copies.new.onto) ≡ chain (shapes c.args.pieces.now) = shape-chain c.add_copies.new.onto ∙ ap chain (c.in_ok-add_copies.ensures ∙ ap (λ xs. append (shapes xs) (shapes c.args.pieces.now)) c.new-copies.ensures.items) in
    subst (λ o. IfNone o (IsSound (shape (Chain c.add_copies.new.onto)) → ⊥)) c.in-None.is c.in_ok-if_sound.ensures.unsound (subst IsSound (sym copied) c.requires.sound)

pub returns : goal.returns
returns c =
    let copied : shape (Chain c.add_copies.new.onto) ≡ chain (shapes c.args.pieces.now) = shape-chain c.add_copies.new.onto ∙ ap chain (c.in_ok-add_copies.ensures ∙ ap (λ xs. append (shapes xs) (shapes c.args.pieces.now)) c.new-copies.ensures.items) in
    (subst (λ o. IfSome o (λ (t : Table). IsTableOf t (shape (Chain c.add_copies.new.onto)))) c.in-Some.is c.in_ok-if_sound.ensures.table).0 ∙ copied
