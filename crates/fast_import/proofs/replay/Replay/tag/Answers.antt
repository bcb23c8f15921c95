use Rattle.fast_import.specs.Bases.{base_in}
use Rattle.fast_import.proofs.Stepping.{tag_done, tag_unknown}
use Rattle.fast_import.proofs.replay.Replay.tag.Goals as goal

pub returns-in-Err : goal.returns-in-Err
returns-in-Err g c = λ S at r h.
    tag_unknown (base_in S (g.B.Base.commits c.args.base.now) (g.B.Base.refs c.args.base.now) (g.B.Base.blobs c.args.base.now)) S c.args.self.now r at c.args.head c.in-Err.fault (c.in-Err.ensures S r h)

pub returns-in-Ok : goal.returns-in-Ok
returns-in-Ok g c = λ S at r h.
    tag_done (base_in S (g.B.Base.commits c.args.base.now) (g.B.Base.refs c.args.base.now) (g.B.Base.blobs c.args.base.now)) S c.keep_tag.new.self r at c.args.head c.in-Ok.target
    (c.in-Ok.ensures S r h) c.keep_tag.result (c.keep_tag.ensures S r h)
