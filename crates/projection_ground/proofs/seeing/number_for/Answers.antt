use Rattle.std.proofs.Common.{◌∙◌, ap, subst, ℕ, Option, IfSome, IfOk}
use Rattle.std.specs.Option.{option_and_then}
use Rattle.git_objects.specs.Trees.{Flat, at}
use Rattle.git_objects.specs.Trees as trees
use Rattle.filter_text.specs.Shapes.{shape}
use Rattle.filter_routes.specs.Interned.{HasAt}
use Rattle.object_store.specs.Unfolding.{flat}
use Rattle.workspace.specs.Workspaces.{resolve, with_leaf}
use Rattle.projection_ground.proofs.seeing.number_for.Goals as goal

pub returns-in-Some-clause-number : goal.returns-in-Some-clause-number
returns-in-Some-clause-number c =
    let S = c.args.ground.now.store in
    let f = shape c.args.filter.now in
    subst (λ (o : Option ℕ). IfSome o (λ n. (t : Flat) → HasAt c.args.ground.now.tables (resolve f t) n)) c.in-Some.is c.requires.asked.table (flat S c.args.root.0)

pub returns-clause-number : goal.returns-clause-number
unfolding resolve
returns-clause-number c =
    let f = shape c.args.filter.now in
    let t = flat c.args.ground.now.store c.args.root.0 in
    subst (λ (x : Option trees.Leaf). IfOk c.number_with.result (HasAt c.number_with.new.ground.tables (with_leaf f x)))
    (c.leaf_where-leaf.ensures.leaf ∙ ap (option_and_then (at t)) c.in_ok-place.ensures.place)
    c.number_with.ensures.number
