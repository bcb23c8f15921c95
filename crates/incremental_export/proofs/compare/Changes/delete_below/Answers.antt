use Rattle.std.proofs.Common.{[], refl}
use Rattle.fast_import.proofs.WalkedLeaves.{all_passed, stepped}
use Rattle.fast_export.proofs.WrittenLeaves.{path_here}
use Rattle.incremental_export.proofs.ComparedFound.{all_gone, more_gone, none_gone, pushed, text_here}
use Rattle.incremental_export.proofs.compare.Changes.delete_below.Goals as goal

pub leaves-init : goal.leaves-init
leaves-init c = ([], none_gone c.args.store.now c.args.front.now c.args.tree.0 c.in_ok-walk.walk c.args.self.now c.requires.store c.requires.tree c.in_ok-walk.ensures)

pub leaves-preserved : goal.leaves-preserved
leaves-preserved c =
    let g = c.leaves.invariant.1 in
    let step = stepped _ _ _ c.leaves.walk.left _ c.next.new.self g.passed c.in_ok-next.ensures c.if-branch.true in
    let place = text_here c.args.front.now step.0 c.path.result.now c.in_ok-path.path.items c.deref.result.now c.in_ok-behind.field-0.items
    (path_here _ step.0 _ step.1 c.path.ensures) c.in_ok-path.ensures c.deref.ensures.value c.in_ok-behind.ensures in
    (_, more_gone c.args.store.now c.args.front.now _ _ _ _ _ _ _ step.0 c.in_ok-behind.field-0.items g step.2 (pushed _ _ _ _ c.in_ok-push.ensures.items) place refl)

pub returns : goal.returns
returns c =
    let g = c.leaves.invariant.1 in
    all_gone c.args.store.now c.args.front.now _ _ _ _ _ g (all_passed _ _ _ c.leaves.walk.left _ c.next.new.self g.passed c.in_ok-next.ensures c.if-branch.false)
