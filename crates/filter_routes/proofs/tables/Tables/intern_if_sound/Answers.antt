use Rattle.std.proofs.Common.{IfSome, sym, subst}
use Rattle.filter_text.specs.Shapes.{shape}
use Rattle.filter_routes.specs.Interned.{HasNone, NumberOf}
use Rattle.filter_routes.specs.Tables.{IsTableOf}
use Rattle.filter_routes.specs.TableValues.{Table}
use Rattle.filter_routes.proofs.Interning.{interns-known, interns-fresh}
use Rattle.filter_routes.proofs.tables.Tables.intern_if_sound.Goals as goal

pub returns-in-Some-clause-number : goal.returns-in-Some-clause-number
returns-in-Some-clause-number c = interns-known c.args.self.now (shape c.args.filter.now) c.in-Some.number c.in-Some.ensures.number

pub add-requires-clause-fresh : goal.add-requires-clause-fresh
add-requires-clause-fresh c =
    let f = shape c.args.filter.now in
    let told : IsTableOf c.in-Some-2.table f = subst (λ o. IfSome o (λ (t : Table). IsTableOf t f)) c.in-Some-2.is c.in_ok-if_sound.ensures.table in
    subst (HasNone c.args.self.now) (sym told.0)
    (subst (NumberOf c.args.self.now f) c.in_default.is c.number_of.ensures.number)

pub returns-in_ok-add-in-Some-2-clause-number : goal.returns-in_ok-add-in-Some-2-clause-number
returns-in_ok-add-in-Some-2-clause-number c =
    let ts = c.args.self.now in
    let f = shape c.args.filter.now in
    let told : IsTableOf c.in-Some-2.table f = subst (λ o. IfSome o (λ (t : Table). IsTableOf t f)) c.in-Some-2.is c.in_ok-if_sound.ensures.table in
    interns-fresh ts c.add.new.self c.in-Some-2.table f c.in_ok-add-in-Some-2.field-0
    (subst (NumberOf ts f) c.in_default.is c.number_of.ensures.number) told.0 c.in_ok-add-in-Some-2.ensures.number c.in_ok-add-in-Some-2.ensures.ok
