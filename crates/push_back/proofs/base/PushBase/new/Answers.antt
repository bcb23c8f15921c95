use Rattle.push_back.proofs.Grounding.{ground-same, ground-there}
use Rattle.push_back.proofs.base.PushBase.new.Goals as goal

pub returns-clause-same : goal.returns-clause-same
returns-clause-same c =
    ground-same c.args.store.now (record { refname = c.args.refname; from = c.args.from; shown = c.args.shown; blobs = c.in_ok-blobs.blobs }) c.in_ok-blobs.ensures

pub returns-clause-there : goal.returns-clause-there
returns-clause-there c =
    ground-there c.args.store.now (record { refname = c.args.refname; from = c.args.from; shown = c.args.shown; blobs = c.in_ok-blobs.blobs }) c.in_ok-blobs.ensures c.requires
