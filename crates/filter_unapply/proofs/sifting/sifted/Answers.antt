use Rattle.object_store.specs.Unfolding.{flat}
use Rattle.stage_nodes.specs.Closing.{HasDirectory}
use Rattle.filter_unapply.specs.Hands.{IsIn, IsMadeOf}
use Rattle.filter_unapply.specs.Sifted.{sifted}
use Rattle.filter_unapply.proofs.Fittings.{sifted-within}
use Rattle.path_trees.proofs.MadeObjects.{grown-by}
use Rattle.filter_unapply.proofs.MadeTrees.{err-by}
use Rattle.filter_unapply.proofs.Stages.{directories-made}
use Rattle.filter_unapply.proofs.sifting.sifted.Goals as goal

pub returns-in_err-finish-clause-err : goal.returns-in_err-finish-clause-err
returns-in_err-finish-clause-err c =
    let S = c.args.store.now in
    let t = flat S c.args.root.0 in
    let u = sifted c.args.inside c.args.list.now t in
    err-by (HasDirectory u) (IsMadeOf (IsIn t)) (directories-made t u c.in_ok-stage.ensures.tree (sifted-within c.args.inside c.args.list.now t)) c.finish.new.store
    c.from_residual-in_err-finish.result c.in_err-finish.field-0.0 c.from_residual-in_err-finish.ensures.1 (c.in_err-finish.ensures u c.in_ok-stage.ensures).refused

pub returns-in_err-finish-clause-store : goal.returns-in_err-finish-clause-store
returns-in_err-finish-clause-store c =
    let S = c.args.store.now in
    let t = flat S c.args.root.0 in
    let u = sifted c.args.inside c.args.list.now t in
    grown-by (HasDirectory u) (IsMadeOf (IsIn t)) (directories-made t u c.in_ok-stage.ensures.tree (sifted-within c.args.inside c.args.list.now t)) S c.finish.new.store
    (c.finish.ensures u c.in_ok-stage.ensures).grown

pub returns-clause-store : goal.returns-clause-store
returns-clause-store c =
    let S = c.args.store.now in
    let t = flat S c.args.root.0 in
    let u = sifted c.args.inside c.args.list.now t in
    grown-by (HasDirectory u) (IsMadeOf (IsIn t)) (directories-made t u c.in_ok-stage.ensures.tree (sifted-within c.args.inside c.args.list.now t)) S c.finish.new.store
    (c.finish.ensures u c.in_ok-stage.ensures).grown
