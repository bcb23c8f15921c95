use Rattle.std.proofs.Common.{◌+◌, ◌∙◌, ap, sym, Some, take, append-nil}
use Rattle.object_store.specs.Unfolding.{flat}
use Rattle.filter_unapply.proofs.Told.{is_tree, leaf_node}
use Rattle.filter_unapply.proofs.Fronts.{clear_first, leaf_at_front}
use Rattle.filter_unapply.proofs.below.leaf_in_way.Goals as goal

pub fronts-init : goal.fronts-init
fronts-init c = let S = c.args.store.now in clear_first (flat S c.args.root.0) c.args.path.now (is_tree S c.store_law.ensures.store c.args.root.0 c.requires)

pub returns-then-not-is_dir-clause-leaf : goal.returns-then-not-is_dir-clause-leaf
returns-then-not-is_dir-clause-leaf c =
    let S = c.args.store.now in
    let x = leaf_node S c.in-Some.found.mode c.in-Some.found.name.0 (sym c.if-not-is_dir.ensures) in
    leaf_at_front (flat S c.args.root.0) c.args.path.now c.in_ok-front.front (c.fronts.last + 1) x.0
    (c.in_ok-front.ensures ∙ append-nil (take (c.fronts.last + 1) c.components-components.result.now) ∙ ap (take (c.fronts.last + 1)) c.components-components.ensures.components)
    (sym c.in-Some.ensures.found ∙ ap Some x.1)
