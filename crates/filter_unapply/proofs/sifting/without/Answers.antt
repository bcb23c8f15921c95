use Rattle.std.proofs.Common.{◌≡◌, [], ◌∷◌, true, false, arith, get_or, is_some, length, ◌<◌, refl, sym, ap, subst, ◌∙◌}
use Rattle.std.proofs.lemmas.List.{drop_all, drop_more}
use Rattle.git_objects.specs.Trees.{Flat, at}
use Rattle.object_store.specs.Objects.{Object}
use Rattle.object_store.specs.Unfolding.{flat}
use Rattle.object_store.proofs.Growth.{grown_as, grown_then}
use Rattle.stage_nodes.specs.Closing.{HasDirectory}
use Rattle.stage_tree.specs.Stages.{Shows}
use Rattle.filter_unapply.specs.Hands.{IsIn, IsMadeOf}
use Rattle.filter_unapply.specs.Sifted.{sifted}
use Rattle.path_trees.proofs.MadeObjects.{grown-by}
use Rattle.filter_unapply.proofs.MadeTrees.{err-again, err-by, known-as}
use Rattle.filter_unapply.proofs.Moves.{no-component}
use Rattle.filter_unapply.proofs.Stages.{directories-made, shown-all, shown-one}
use Rattle.filter_unapply.proofs.Runs.{found-in}
use Rattle.filter_unapply.proofs.sifting.without.Goals as goal

pub returns-then-is_empty-clause-ok : goal.returns-then-is_empty-clause-ok
returns-then-is_empty-clause-ok c =
    let S = c.args.store.now in
    λ u s w. subst (λ es. Shows S c.args.stage.now (sifted false es u)) (sym (no-component c.args.list.now c.if-is_empty.ensures)) (shown-all S c.args.stage.now false u refl s)

pub returns-then-stays-clause-ok : goal.returns-then-stays-clause-ok
returns-then-stays-clause-ok c =
    let S = c.args.store.now in
    let t = flat S c.args.root.0 in
    let all = c.args.list.now in
    let e = c.index-list-0-then-stays.result in
    let first = c.index-list-0.result in
    let less : 0 < length all = omega (arith, c.if-list-eq1.true) in
    let list : all ≡ e ∷ [] = drop_more all 0 e less ∙ (λ i. (sym c.index-list-0-then-stays.is) i ∷ drop_all 1 all (omega (arith, c.if-list-eq1.true)) i) in
    let same : first ≡ e = c.index-list-0.is ∙ ap (λ es. get_or es 0 first) list in
    let aims : is_some e.1 ≡ true = ap (λ x. is_some x.1) (sym same) ∙ sym c.stays.ensures ∙ c.if-stays.true in
    λ u s w. subst (λ es. Shows S c.with_entry.new.stage (sifted false es u)) (sym list) (shown-one S c.with_entry.new.stage t u s.tree e aims (c.in_ok-with_entry.ensures u s w))

pub returns-in_err-part-clause-err : goal.returns-in_err-part-clause-err
returns-in_err-part-clause-err c =
    let S = c.args.store.now in
    let t = flat S c.args.root.0 in
    let u = c.requires.shows.0 in
    let s = c.requires.shows.1 in
    let w = c.requires.shows.2 in
    let made = directories-made t u s.tree w in
    let R = c.finish.new.store in
    err-by (HasDirectory u) (IsMadeOf (IsIn t)) made R c.from_residual-in_err-part.result c.in_err-part.field-0.0 c.from_residual-in_err-part.ensures.1 (c.in_err-part.ensures u s).refused

pub returns-in_err-part-clause-store : goal.returns-in_err-part-clause-store
returns-in_err-part-clause-store c =
    let S = c.args.store.now in
    let t = flat S c.args.root.0 in
    let u = c.requires.shows.0 in
    let s = c.requires.shows.1 in
    let w = c.requires.shows.2 in
    let made = directories-made t u s.tree w in
    let R = c.finish.new.store in
    grown-by (HasDirectory u) (IsMadeOf (IsIn t)) made S R (c.finish.ensures u s).grown

pub returns-in_err-rest-clause-err : goal.returns-in_err-rest-clause-err
returns-in_err-rest-clause-err c =
    let S = c.args.store.now in
    let t = flat S c.args.root.0 in
    let u = c.requires.shows.0 in
    let s = c.requires.shows.1 in
    let w = c.requires.shows.2 in
    let made = directories-made t u s.tree w in
    let R = c.finish.new.store in
    let v = flat R c.in_ok-part.part.0 in
    let same : v ≡ u = (c.in_ok-part.ensures u s).named.map in
    let more : (o : Object) → IsMadeOf (IsIn v) o → IsMadeOf (IsIn t) o = known-as (IsIn v) (IsIn t) (λ p x e. w p x (ap (λ (z : Flat). at z p) (sym same) ∙ e)) in
    err-again (IsMadeOf (IsIn v)) (IsMadeOf (IsIn t)) more c.sifted.new.store c.from_residual-in_err-rest.result c.in_err-rest.field-0.0 c.from_residual-in_err-rest.ensures.1 c.in_err-rest.ensures.err

pub returns-in_err-rest-clause-store : goal.returns-in_err-rest-clause-store
returns-in_err-rest-clause-store c =
    let S = c.args.store.now in
    let t = flat S c.args.root.0 in
    let u = c.requires.shows.0 in
    let s = c.requires.shows.1 in
    let w = c.requires.shows.2 in
    let made = directories-made t u s.tree w in
    let R = c.finish.new.store in
    let v = flat R c.in_ok-part.part.0 in
    let same : v ≡ u = (c.in_ok-part.ensures u s).named.map in
    let more : (o : Object) → IsMadeOf (IsIn v) o → IsMadeOf (IsIn t) o = known-as (IsIn v) (IsIn t) (λ p x e. w p x (ap (λ (z : Flat). at z p) (sym same) ∙ e)) in
    grown_then (IsMadeOf (IsIn t)) S R c.sifted.new.store (grown-by (HasDirectory u) (IsMadeOf (IsIn t)) made S R (c.finish.ensures u s).grown)
    (grown_as (IsMadeOf (IsIn v)) (IsMadeOf (IsIn t)) R c.sifted.new.store more c.sifted.ensures.store)

pub returns-in_err-stage-clause-store : goal.returns-in_err-stage-clause-store
returns-in_err-stage-clause-store c =
    let S = c.args.store.now in
    let t = flat S c.args.root.0 in
    let u = c.requires.shows.0 in
    let s = c.requires.shows.1 in
    let w = c.requires.shows.2 in
    let made = directories-made t u s.tree w in
    let R = c.finish.new.store in
    let v = flat R c.in_ok-part.part.0 in
    let same : v ≡ u = (c.in_ok-part.ensures u s).named.map in
    let more : (o : Object) → IsMadeOf (IsIn v) o → IsMadeOf (IsIn t) o = known-as (IsIn v) (IsIn t) (λ p x e. w p x (ap (λ (z : Flat). at z p) (sym same) ∙ e)) in
    grown_then (IsMadeOf (IsIn t)) S R c.sifted.new.store (grown-by (HasDirectory u) (IsMadeOf (IsIn t)) made S R (c.finish.ensures u s).grown)
    (grown_as (IsMadeOf (IsIn v)) (IsMadeOf (IsIn t)) R c.sifted.new.store more c.sifted.ensures.store)

pub returns-clause-store : goal.returns-clause-store
returns-clause-store c =
    let S = c.args.store.now in
    let t = flat S c.args.root.0 in
    let u = c.requires.shows.0 in
    let s = c.requires.shows.1 in
    let w = c.requires.shows.2 in
    let made = directories-made t u s.tree w in
    let R = c.finish.new.store in
    let v = flat R c.in_ok-part.part.0 in
    let same : v ≡ u = (c.in_ok-part.ensures u s).named.map in
    let more : (o : Object) → IsMadeOf (IsIn v) o → IsMadeOf (IsIn t) o = known-as (IsIn v) (IsIn t) (λ p x e. w p x (ap (λ (z : Flat). at z p) (sym same) ∙ e)) in
    grown_then (IsMadeOf (IsIn t)) S R c.sifted.new.store (grown-by (HasDirectory u) (IsMadeOf (IsIn t)) made S R (c.finish.ensures u s).grown)
    (grown_as (IsMadeOf (IsIn v)) (IsMadeOf (IsIn t)) R c.sifted.new.store more c.sifted.ensures.store)

pub with_entry-requires-clause-found : goal.with_entry-requires-clause-found
with_entry-requires-clause-found c =
    let S = c.args.store.now in
    let less : 0 < length c.args.list.now = omega (arith, c.if-list-eq1.true) in
    found-in S (flat S c.args.root.0) c.args.list.now c.in_ok-founds.founds.items c.in_ok-founds.ensures 0 c.index-list-0-then-stays.result less c.index-list-0-then-stays.is c.index.result.now c.index.result.now c.index.ensures
