use Rattle.filter_text.specs.Shapes.{shape}
use Rattle.workspace.specs.Views.{found_value}
use Rattle.workspace.specs.Workspaces.{with_leaf}
use Rattle.projection_ground.specs.Asked.{IsNone}
use Rattle.projection_ground.proofs.Growing.{ground-tables, interned-front}
use Rattle.projection_ground.proofs.Asking.{asked-grown, leaf-again, leaf-now, tables-after}
use Rattle.projection_ground.proofs.seeing.number_with.Goals as goal

pub returns-then-is_last-clause-number : goal.returns-then-is_last-clause-number
returns-then-is_last-clause-number c =
    leaf-again (shape c.args.filter.now) c.args.ground.now c.args.asked.now c.in-Some.last c.args.leaf c.in-Some.number c.requires.asked c.in-Some.is (c.is_last.ensures.0 c.if-is_last.true)

pub returns-in_err-number-clause-asked : goal.returns-in_err-number-clause-asked
returns-in_err-number-clause-asked c =
    let f = shape c.args.filter.now in
    let g = c.args.ground.now in
    let ts = c.resolve_leaf.new.tables in
    asked-grown f g (record g { tables = ts }) IsNone c.args.asked.now
    (ground-tables IsNone g ts c.requires.ground
    (tables-after g.tables ts (with_leaf f (found_value g.store c.args.leaf)) c.resolve_leaf.result c.resolve_leaf.ensures.table c.resolve_leaf.ensures.err))
    c.requires.asked

pub returns-clause-same : goal.returns-clause-same
returns-clause-same c = ground-tables IsNone c.args.ground.now c.resolve_leaf.new.tables c.requires.ground (interned-front _ _ _ _ c.in_ok-number.ensures.table)

pub returns-clause-asked : goal.returns-clause-asked
returns-clause-asked c =
    let g = c.args.ground.now in
    let ts = c.resolve_leaf.new.tables in
    leaf-now (shape c.args.filter.now) g c.args.asked.now ts c.args.leaf c.in_ok-number.field-0.table c.requires.ground (interned-front _ _ _ _ c.in_ok-number.ensures.table) c.requires.asked c.requires.held c.in_ok-number.ensures.table.there
