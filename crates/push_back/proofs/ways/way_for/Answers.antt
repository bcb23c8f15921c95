use Rattle.std.proofs.Common.{sym, ap, ◌∙◌}
use Rattle.std.specs.Option.{option_and_then}
use Rattle.object_store.specs.Unfolding.{flat}
use Rattle.filter_text.specs.Shapes.{shape}
use Rattle.filter_routes.specs.Images.{image}
use Rattle.workspace.specs.Workspaces.{resolve}
use Rattle.push_back.proofs.NextFilters.{front-after, front-then, way-none}
use Rattle.push_back.proofs.ways.way_for.Goals as goal

pub returns-in_err-image_where-clause-tables : goal.returns-in_err-image_where-clause-tables
returns-in_err-image_where-clause-tables c =
    front-after c.args.tables.now c.resolve.new.tables (resolve (shape c.args.filter.now) (flat c.args.store.now c.args.base.0)) (λ n. n) c.resolve.result c.resolve.ensures.number c.resolve.ensures.err

pub returns-in-None-clause-tables : goal.returns-in-None-clause-tables
returns-in-None-clause-tables c =
    front-after c.args.tables.now c.resolve.new.tables (resolve (shape c.args.filter.now) (flat c.args.store.now c.args.base.0)) (λ n. n) c.resolve.result c.resolve.ensures.number c.resolve.ensures.err

pub returns-clause-tables : goal.returns-clause-tables
returns-clause-tables c =
    front-then c.args.tables.now c.resolve.new.tables c.next_way.new.tables
    (front-after c.args.tables.now c.resolve.new.tables (resolve (shape c.args.filter.now) (flat c.args.store.now c.args.base.0)) (λ n. n) c.resolve.result c.resolve.ensures.number c.resolve.ensures.err)
    c.next_way.ensures.tables

pub returns-in-None-clause-way : goal.returns-in-None-clause-way
returns-in-None-clause-way c =
    let f = shape c.args.filter.now in
    let t = flat c.args.store.now c.args.base.0 in
    let r = resolve f t in
    way-none f t (flat c.args.store.now c.args.pushed.0) c.resolve.new.tables c.in_ok-old.old
    (sym c.in-None.is ∙ c.in_ok-image_where.ensures r c.in_ok-old.ensures.number.there ∙ ap (option_and_then (image r)) c.in_ok-file.ensures.place)
    c.in_ok-old.ensures.number.there
