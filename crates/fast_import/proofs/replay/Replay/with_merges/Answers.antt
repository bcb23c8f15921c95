use Rattle.std.proofs.Common.{map}
use Rattle.git_objects.specs.Parts.{name_bytes}
use Rattle.fast_import.specs.Bases.{base_in}
use Rattle.fast_import.proofs.Resolving.{merge_added, merge_refused}
use Rattle.fast_import.proofs.replay.Replay.with_merges.Goals as goal

pub loop-merge-preserved : goal.loop-merge-preserved
loop-merge-preserved g c = λ S r h.
    merge_added (base_in S (g.B.Base.commits c.args.base.now) (g.B.Base.refs c.args.base.now) (g.B.Base.blobs c.args.base.now)) r c.args.merges.now c.loop-merge.merge-index c.merge-item.result (map name_bytes c.loop-merge.parents.items) _ (c.loop-merge.invariant S r h) c.loop-merge-test.true c.merge-item.is
    (map name_bytes c.add_merge.new.parents.items) (c.in-Ok.ensures S r h)

pub returns-in-Err : goal.returns-in-Err
returns-in-Err g c = λ S r h.
    merge_refused (base_in S (g.B.Base.commits c.args.base.now) (g.B.Base.refs c.args.base.now) (g.B.Base.blobs c.args.base.now)) r c.args.merges.now c.loop-merge.merge-index c.merge-item.result (map name_bytes c.loop-merge.parents.items) _ (c.loop-merge.invariant S r h) c.loop-merge-test.true c.merge-item.is
    c.in-Err.fault (c.in-Err.ensures S r h)
