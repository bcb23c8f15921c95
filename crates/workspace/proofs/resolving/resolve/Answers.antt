use Rattle.std.proofs.Common.{◌∙◌, ap, subst}
use Rattle.std.specs.Option.{option_and_then}
use Rattle.git_objects.specs.Trees.{at}
use Rattle.object_store.specs.Unfolding.{flat}
use Rattle.filter_text.specs.Shapes.{shape}
use Rattle.filter_routes.specs.Interned.{Interns}
use Rattle.workspace.specs.Workspaces.{resolve, with_leaf}
use Rattle.workspace.proofs.resolving.resolve.Goals as goal

pub returns-clause-number : goal.returns-clause-number
unfolding resolve
returns-clause-number c =
    let f = shape c.args.filter.now in
    let t = flat c.args.store.now c.args.root.0 in
    subst (λ x. Interns c.args.tables.now c.resolve_leaf.new.tables (with_leaf f x) c.in_ok-resolve_leaf.field-0.table)
    (c.leaf_where-leaf.ensures.leaf ∙ ap (option_and_then (at t)) c.in_ok-place.ensures.place)
    c.in_ok-resolve_leaf.ensures.table
