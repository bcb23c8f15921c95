use Rattle.std.proofs.Common.{[]}
use Rattle.object_store.specs.Unfolding.{flat}
use Rattle.push_back.proofs.Grounding.{all_collected, more_collected, none_collected}
use Rattle.push_back.proofs.base.tree_blobs.Goals as goal

pub leaves-init : goal.leaves-init
leaves-init c = ([], none_collected c.args.store.now c.args.tree.0 c.in_ok-walk.walk c.new-blobs.result c.store_law.ensures.store c.requires c.in_ok-walk.ensures c.new-blobs.ensures)

pub leaves-preserved : goal.leaves-preserved
leaves-preserved c =
    more_collected c.args.store.now (flat c.args.store.now c.args.tree.0) c.leaves.invariant.0 c.leaves.walk.left c.leaves.blobs _ _ c.next.new.self c.leaf.result c.leaf.result.is_leaf c.leaves.invariant.1 c.in_ok-next.ensures c.if-branch.true
    c.leaf.ensures.mode c.leaf.ensures.name c.in_ok-add_leaf.ensures

pub returns : goal.returns
returns c =
    all_collected c.args.store.now (flat c.args.store.now c.args.tree.0) c.leaves.invariant.0 c.leaves.walk.left c.leaves.blobs _ c.next.new.self c.leaves.invariant.1 c.in_ok-next.ensures c.if-branch.false
