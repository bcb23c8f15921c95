use Rattle.std.proofs.Common.{◌≡◌, not, ◌&&◌, ◌||◌, Option, Some, subst}
use Rattle.std.specs.Option.{option_and_then}
use Rattle.git_objects.specs.Paths.{Path}
use Rattle.git_objects.specs.Trees.{at}
use Rattle.object_store.specs.Unfolding.{flat}
use Rattle.filter_text.specs.Shapes.{shape}
use Rattle.filter_routes.specs.Images.{image}
use Rattle.workspace.specs.Views.{found_value}
use Rattle.workspace.specs.Workspaces.{with_leaf}
use Rattle.push_laws.specs.PushVerdicts.{same_found, same_place}
use Rattle.push_back.proofs.NextFilters.{front-after, way-some}
use Rattle.push_back.proofs.ways.next_way.Goals as goal

pub returns-in_err-is_bad-clause-tables : goal.returns-in_err-is_bad-clause-tables
returns-in_err-is_bad-clause-tables c =
    front-after c.args.tables.now c.resolve_leaf.new.tables (with_leaf (shape c.args.filter.now) (found_value c.args.store.now c.leaf_at-leaf.result)) (λ r. r.table) c.resolve_leaf.result c.resolve_leaf.ensures.table c.resolve_leaf.ensures.err

pub returns-clause-tables : goal.returns-clause-tables
returns-clause-tables c =
    front-after c.args.tables.now c.resolve_leaf.new.tables (with_leaf (shape c.args.filter.now) (found_value c.args.store.now c.leaf_at-leaf.result)) (λ r. r.table) c.resolve_leaf.result c.resolve_leaf.ensures.table c.resolve_leaf.ensures.err

pub returns-clause-way : goal.returns-clause-way
returns-clause-way c =
    let S = c.args.store.now in
    let f = shape c.args.filter.now in
    let t = flat S c.args.base.0 in
    let n = flat S c.args.pushed.0 in
    let q = c.args.shown.now in
    let x = found_value S c.leaf_at-leaf.result in
    let next = c.in_ok-next.next in
    let b = c.in_ok-is_bad.is_bad in
    way-some f t n c.args.tables.now c.resolve_leaf.new.tables q c.args.old next.table next.readable b x c.requires.shown
    (front-after c.args.tables.now c.resolve_leaf.new.tables (with_leaf f x) (λ r. r.table) c.resolve_leaf.result c.resolve_leaf.ensures.table c.resolve_leaf.ensures.err)
    c.requires.old c.leaf_at-leaf.ensures.leaf c.in_ok-next.ensures.table.there c.in_ok-next.ensures.readable
    (λ r k. subst (λ (o : Option Path). b ≡ (not (same_found (at n q) (option_and_then (at t) o)) && (not next.readable || not (same_place (option_and_then (image r) o) (Some q))))) c.requires.file (c.in_ok-is_bad.ensures r k))
