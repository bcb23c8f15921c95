use Rattle.std.proofs.Common.{◌≡◌, ◌++◌, [], ◌∷◌, length, Some, cond, sym, ap, ◌∙◌, subst, is_ok, nat_eq}
use Rattle.std.specs.Cmp.Lexicographic.{pointwise}
use Rattle.filter_routes.specs.Interned.{HasNone, IsStored, number_at}
use Rattle.filter_text.specs.Printing.{printed}
use Rattle.filter_text.specs.Shapes.{shape}
use Rattle.filter_routes.proofs.Interning.{stored-add}
use Rattle.filter_routes.proofs.tables.Tables.add.Goals as goal

pub invariant_of-self-2 : goal.invariant_of-self-2
invariant_of-self-2 c =
    let ts = c.self.inside.tables.items in
    let es = c.self.inside.numbers.entries in
    let items : c.push.new.self.items ≡ ts ++ c.args.table ∷ [] =
    c.push.ensures.items
    ∙ ap (λ r. cond (is_ok r) (c.reserve.new.self.items ++ c.args.table ∷ []) c.reserve.new.self.items) c.unwrap.ensures
    ∙ ap (λ xs. xs ++ c.args.table ∷ []) c.in_ok-reserve.ensures.items in
    subst (λ xs. IsStored xs c.insert.new.self.entries) (sym items)
    (stored-add ts c.args.table es c.insert.new.self.entries c.self.invariant
    (subst (λ xs. HasNone xs (shape c.args.table.filter)) (sym c.self.view_is) c.requires.fresh)
    (λ q. c.in_ok-insert.ensures.updates.0 q
    ∙ ap (λ k. cond (pointwise nat_eq k q) (Some (length c.as_slice-number.result.now)) (number_at es q)) c.requires.text
    ∙ ap (λ xs. cond (pointwise nat_eq (printed (shape c.args.table.filter)) q) (Some (length xs)) (number_at es q)) c.as_slice-number.ensures.value))
