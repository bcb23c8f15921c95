use Rattle.std.proofs.Common.{[]}
use Rattle.fast_export.proofs.Sent.{put_err}
use Rattle.fast_import.proofs.WalkedLeaves.{leaf_here, stepped}
use Rattle.fast_export.proofs.WrittenBlobs.{less_written, more_written, none_written, short_written}
use Rattle.fast_export.proofs.blobs.write_each_new_blob.Goals as goal

pub leaves-init : goal.leaves-init
leaves-init g c = ([], none_written _ _ c.args.store.now c.args.tree.0 c.in_ok-walk.walk c.args.marks.now c.requires.store c.requires.tree c.in_ok-walk.ensures c.requires.marks)

pub returns-in_err-next-clause-put : goal.returns-in_err-next-clause-put
returns-in_err-next-clause-put g c =
    put_err _ _ _ _ _ _ _ c.from_residual-in_err-next.ensures.1 (short_written _ _ _ _ _ _ _ _ _ _ _ c.leaves.invariant.1)

pub leaves-preserved : goal.leaves-preserved
leaves-preserved g c =
    let step = stepped _ _ _ c.leaves.walk.left _ c.next.new.self c.leaves.invariant.1.passed c.in_ok-next.ensures c.if-branch.true in
    let here = leaf_here c.args.store.now c.next.new.self.current step.0 c.leaf.result step.1 c.leaf.ensures.mode c.leaf.ensures.name step.3 in
    (_, more_written _ _ _ _ _ _ _ _ _ _ _ _ c.leaf.result _ _ _ c.leaves.invariant.1 step.2 here.1 c.in_ok-write_new_blob.ensures.put c.in_ok-write_new_blob.ensures.marks c.in_ok-write_new_blob.ensures.given c.in_ok-write_new_blob.ensures.commits)

pub returns-in_err-write_new_blob-clause-put : goal.returns-in_err-write_new_blob-clause-put
returns-in_err-write_new_blob-clause-put g c =
    let step = stepped _ _ _ c.leaves.walk.left _ c.next.new.self c.leaves.invariant.1.passed c.in_ok-next.ensures c.if-branch.true in
    let here = leaf_here c.args.store.now c.next.new.self.current step.0 c.leaf.result step.1 c.leaf.ensures.mode c.leaf.ensures.name step.3 in
    put_err _ _ _ _ _ c.in_err-write_new_blob.field-0.0 _ c.from_residual-in_err-write_new_blob.ensures.1
    (less_written _ _ _ _ _ _ _ _ _ _ _ _ c.leaf.result _ _ _ c.leaves.invariant.1 step.2 here.1 c.in_err-write_new_blob.ensures.put)
