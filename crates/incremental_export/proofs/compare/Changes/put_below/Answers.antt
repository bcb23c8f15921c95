use Rattle.std.proofs.Common.{[], refl}
use Rattle.fast_import.proofs.WalkedLeaves.{all_passed, leaf_here, stepped}
use Rattle.fast_export.proofs.WrittenLeaves.{path_here}
use Rattle.incremental_export.proofs.ComparedFound.{all_new, more_new, none_new, text_here}
use Rattle.incremental_export.proofs.compare.Changes.put_below.Goals as goal

pub leaves-init : goal.leaves-init
leaves-init c = ([], none_new c.args.store.now c.args.front.now c.args.tree.0 c.in_ok-walk.walk c.args.self.now c.requires.store c.requires.tree c.in_ok-walk.ensures)

pub leaves-preserved : goal.leaves-preserved
leaves-preserved c =
    let g = c.leaves.invariant.1 in
    let step = stepped _ _ _ c.leaves.walk.left _ c.next.new.self g.passed c.in_ok-next.ensures c.if-branch.true in
    let here = leaf_here c.args.store.now c.next.new.self.current step.0 c.leaf-leaf.result step.1 c.leaf-leaf.ensures.mode c.leaf-leaf.ensures.name step.3 in
    let place = text_here c.args.front.now step.0 c.path.result.now c.in_ok-path.path.items c.deref.result.now c.in_ok-path-2.path.items
    (path_here _ step.0 _ step.1 c.path.ensures) c.in_ok-path.ensures c.deref.ensures.value c.in_ok-path-2.ensures in
    (_, more_new c.args.store.now c.args.front.now _ _ _ _ _ _ _ step.0 _ g step.2 c.in_ok-push.ensures.items place here.0 here.1 refl)

pub returns : goal.returns
returns c =
    let g = c.leaves.invariant.1 in
    all_new c.args.store.now c.args.front.now _ _ _ _ _ g (all_passed _ _ _ c.leaves.walk.left _ c.next.new.self g.passed c.in_ok-next.ensures c.if-branch.false)
