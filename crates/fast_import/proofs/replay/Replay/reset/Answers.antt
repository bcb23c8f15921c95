use Rattle.fast_import.specs.Bases.{base_in}
use Rattle.fast_import.proofs.Knowing.{said-there, name-there}
use Rattle.fast_import.proofs.Stepping.{reset_done}
use Rattle.fast_import.proofs.replay.Replay.reset.Goals as goal

pub returns-in-Ok : goal.returns-in-Ok
returns-in-Ok g c = λ S at r b h.
    reset_done (base_in S (g.B.Base.commits c.args.base.now) (g.B.Base.refs c.args.base.now) (g.B.Base.blobs c.args.base.now)) S c.args.self.now c.set_branch.new.self r at c.args.refname c.args.from.now c.in-Ok.head h
    (c.in-Ok.ensures S r h)
    (name-there S c.in-Ok.head (said-there S c.args.self.now r h (g.B.Base.commits c.args.base.now) (g.B.Base.refs c.args.base.now) (g.B.Base.blobs c.args.base.now) b c.args.from.now _ (c.in-Ok.ensures S r h)))
    c.set_branch.result c.set_branch.ensures.ok c.set_branch.ensures.err
