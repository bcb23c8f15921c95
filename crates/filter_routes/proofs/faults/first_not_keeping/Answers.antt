use Rattle.std.proofs.Common.{arith, ◌<◌, sym, ◌∙◌, Ok, Err}
use Rattle.filter_text.specs.Filters.{pieces}
use Rattle.filter_text.specs.Shapes.{shape}
use Rattle.filter_routes.proofs.Walking.{first-told, err-small}
use Rattle.filter_routes.proofs.faults.first_not_keeping.Goals as goal

pub overflow_cast-result : goal.overflow_cast-result
overflow_cast-result c =
    let f = shape c.args.filter.now in
    let small : c.in-Err.number < pieces f = err-small f c.in-Err.number (sym c.in-Err.is ∙ c.not_keeping.ensures) in
    omega (arith, small, c.requires)

pub returns-in-Ok : goal.returns-in-Ok
returns-in-Ok c = first-told (shape c.args.filter.now) (Ok c.in-Ok.field-0) (sym c.in-Ok.is ∙ c.not_keeping.ensures)

pub returns-in-Err : goal.returns-in-Err
returns-in-Err c = first-told (shape c.args.filter.now) (Err c.in-Err.number) (sym c.in-Err.is ∙ c.not_keeping.ensures)
