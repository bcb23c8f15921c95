use Rattle.std.proofs.Common.{◌<◌, length, arith}
use Rattle.fast_export.proofs.Sent.{put_err}
use Rattle.incremental_export.proofs.PlacedBlobs.{all_blobs, leaf_held, less_blobs, more_blobs, no_blobs}
use Rattle.incremental_export.proofs.commits.write_blobs.Goals as goal

pub loop-placed-init : goal.loop-placed-init
loop-placed-init g c = no_blobs c.args.store.now c.args.leaves.now c.args.marks.now _ _ c.requires.marks

pub write_new_blob-requires-clause-leaf : goal.write_new_blob-requires-clause-leaf
write_new_blob-requires-clause-leaf g c = leaf_held c.args.store.now c.args.leaves.now c.loop-placed.placed-index c.placed-item.result c.placed-item.is c.requires.leaves (omega arith)

pub write_new_blob-requires-clause-marks : goal.write_new_blob-requires-clause-marks
write_new_blob-requires-clause-marks g c = c.loop-placed.invariant.given

pub returns-in_err-write_new_blob-clause-put : goal.returns-in_err-write_new_blob-clause-put
returns-in_err-write_new_blob-clause-put g c =
    let within : c.loop-placed.placed-index < length c.args.leaves.now = omega arith in
    put_err _ _ _ _ _ c.in_err-write_new_blob.field-0.0 _ c.from_residual.ensures.1
    (less_blobs c.args.store.now c.args.leaves.now c.args.marks.now _ _ _ _ _ _ c.loop-placed.placed-index c.placed-item.result c.loop-placed.marks within c.placed-item.is c.loop-placed.invariant c.in_err-write_new_blob.field-0.0 c.in_err-write_new_blob.ensures.put)

pub loop-placed-preserved : goal.loop-placed-preserved
loop-placed-preserved g c =
    let within : c.loop-placed.placed-index < length c.args.leaves.now = omega arith in
    more_blobs c.args.store.now c.args.leaves.now c.args.marks.now _ _ _ _ _ _ c.loop-placed.placed-index c.placed-item.result c.loop-placed.marks within c.placed-item.is c.loop-placed.invariant c.write_new_blob.new.marks
    c.in_ok-write_new_blob.ensures.put c.in_ok-write_new_blob.ensures.marks c.in_ok-write_new_blob.ensures.given c.in_ok-write_new_blob.ensures.commits

pub returns-clause-put : goal.returns-clause-put
returns-clause-put g c = (all_blobs c.args.store.now c.args.leaves.now c.args.marks.now _ _ _ _ c.loop-placed.placed-index c.loop-placed.marks c.loop-placed-test.false c.loop-placed.invariant).0

pub returns-clause-marks : goal.returns-clause-marks
returns-clause-marks g c = (all_blobs c.args.store.now c.args.leaves.now c.args.marks.now _ _ _ _ c.loop-placed.placed-index c.loop-placed.marks c.loop-placed-test.false c.loop-placed.invariant).1

pub returns-clause-given : goal.returns-clause-given
returns-clause-given g c = c.loop-placed.invariant.given

pub returns-clause-commits : goal.returns-clause-commits
returns-clause-commits g c = c.loop-placed.invariant.commits
