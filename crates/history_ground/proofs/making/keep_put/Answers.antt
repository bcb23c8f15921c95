use Rattle.git_objects.specs.declared.kind.Kind.TheVariants.{Commit}
use Rattle.object_store.specs.Growth.{IsOnly}
use Rattle.history_ground.proofs.TakenTurns.{extends-store, kept-either}
use Rattle.history_ground.proofs.TrueWalking.{put-there}
use Rattle.history_ground.proofs.making.keep_put.Goals as goal

pub returns-in_err-put_commit-clause-same : goal.returns-in_err-put_commit-clause-same
returns-in_err-put_commit-clause-same c = extends-store (IsOnly Commit c.args.body.items) c.args.ground.now c.put_commit.new.store c.requires.ground c.put_commit.ensures.store

pub returns-clause-there : goal.returns-clause-there
returns-clause-there c = put-there (record c.args.ground.now { store = c.put_commit.new.store }) c.keep.new.ground _ c.args.body.items c.in_ok-put_commit.ensures.ok c.keep.result c.keep.ensures.ok

pub returns-clause-same : goal.returns-clause-same
returns-clause-same c =
    let made = IsOnly Commit c.args.body.items in
    kept-either made c.args.ground.now _ c.keep.new.ground _ c.keep.result (extends-store made c.args.ground.now c.put_commit.new.store c.requires.ground c.put_commit.ensures.store) c.keep.ensures.ok c.keep.ensures.err
