use Rattle.std.proofs.Common.{◌∙◌, sym, subst}
use Rattle.std.specs.Prelude.{IfErr, IfOk}
use Rattle.git_objects.specs.Trees.{Flat}
use Rattle.object_store.specs.Unfolding.{flat}
use Rattle.path_trees.specs.Made.{IsGrown}
use Rattle.filter_unapply.specs.Laying.{laid_through}
use Rattle.filter_unapply.specs.Laying.{below}
use Rattle.filter_unapply.specs.Stored.{IsLaidBody, IsLaidTree, IsLayFault}
use Rattle.filter_unapply.proofs.Told.{empty_first}
use Rattle.filter_unapply.proofs.below.laid_below.Goals as goal

pub returns-in-None-clause-ok : goal.returns-in-None-clause-ok
returns-in-None-clause-ok c =
    let S = c.args.store.now in
    let none = empty_first (flat S c.args.pushed.0) (sym c.in_ok-first_path.ensures ∙ c.in-None.is) in
    subst (λ (n : Flat). IfOk c.emptied.result (IsLaidTree c.emptied.new.store (laid_through (below c.args.place.now) (flat S c.args.base.0) n))) none c.emptied.ensures.ok

pub returns-in-None-clause-err : goal.returns-in-None-clause-err
returns-in-None-clause-err c =
    let S = c.args.store.now in
    let none = empty_first (flat S c.args.pushed.0) (sym c.in_ok-first_path.ensures ∙ c.in-None.is) in
    subst (λ (n : Flat). IfErr c.emptied.result (IsLayFault (laid_through (below c.args.place.now) (flat S c.args.base.0) n) c.args.place.now c.emptied.new.store)) none c.emptied.ensures.err

pub returns-in-None-clause-store : goal.returns-in-None-clause-store
returns-in-None-clause-store c =
    let S = c.args.store.now in
    let none = empty_first (flat S c.args.pushed.0) (sym c.in_ok-first_path.ensures ∙ c.in-None.is) in
    subst (λ (n : Flat). IsGrown (IsLaidBody (laid_through (below c.args.place.now) (flat S c.args.base.0) n) c.args.place.now) S c.emptied.new.store) none c.emptied.ensures.store
