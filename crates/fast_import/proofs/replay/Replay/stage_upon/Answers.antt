use Rattle.std.proofs.Common.{sym, subst}
use Rattle.std.proofs.lemmas.Result.{IfOk-weaker}
use Rattle.git_objects.specs.Trees.{Flat}
use Rattle.stage_tree.specs.Stages.{Shows}
use Rattle.fast_import.specs.Bases.{base_in}
use Rattle.fast_import.proofs.Committing.{upon_nothing, upon_unknown}
use Rattle.fast_import.proofs.replay.Replay.stage_upon.Goals as goal

pub returns-in_default : goal.returns-in_default
returns-in_default g c =
    IfOk-weaker c.empty.result _ _ (λ s p r h. subst (λ (t : Flat). Shows c.args.store.now s t)
    (sym (upon_nothing (base_in c.args.store.now (g.B.Base.commits c.args.base.now) (g.B.Base.refs c.args.base.now) (g.B.Base.blobs c.args.base.now)) r c.args.first c.in_default.is)) (p c.args.store.now c.store_law.ensures.store)) c.empty.ensures

pub returns-in-None : goal.returns-in-None
returns-in-None g c =
    IfOk-weaker c.empty-in-None.result _ _ (λ s p r h. subst (λ (t : Flat). Shows c.args.store.now s t)
    (sym (upon_unknown (base_in c.args.store.now (g.B.Base.commits c.args.base.now) (g.B.Base.refs c.args.base.now) (g.B.Base.blobs c.args.base.now)) r c.args.first c.in-Some.name c.in-Some.is (sym (c.in-None.ensures.tree c.args.store.now r h)))) (p c.args.store.now c.store_law-in-None.ensures.store)) c.empty-in-None.ensures
