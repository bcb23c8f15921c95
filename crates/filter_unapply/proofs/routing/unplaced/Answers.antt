use Rattle.std.proofs.Common.{◌≡◌, ◌++◌, ◌+◌, [], take, sym, ap, subst, ◌∙◌, refl}
use Rattle.git_objects.specs.Trees.{Flat, at}
use Rattle.git_objects.specs.declared.kind.Kind.TheVariants.{Tree}
use Rattle.object_store.specs.Objects.{Object}
use Rattle.object_store.specs.Unfolding.{flat}
use Rattle.object_store.proofs.Growth.{flat-grown, grown_as, grown_self, grown_then, has-grown}
use Rattle.stage_nodes.specs.Closing.{HasDirectory}
use Rattle.stage_tree.specs.Stages.{Shows}
use Rattle.decision_lists.specs.Backward.{IsWayBack, route_cells}
use Rattle.decision_lists.specs.Cells.{cells}
use Rattle.filter_unapply.specs.Hands.{IsIn, IsMadeOf}
use Rattle.filter_unapply.specs.Routed.{unplaced}
use Rattle.filter_unapply.specs.Sifted.{IsWithin}
use Rattle.filter_unapply.proofs.Cellwise.{cells-front, unplaced-in, unplaced-more, unplaced-none}
use Rattle.path_trees.proofs.MadeObjects.{grown-by}
use Rattle.filter_unapply.proofs.MadeTrees.{err-again, err-by, same-known}
use Rattle.filter_unapply.proofs.Stages.{directories-made}
use Rattle.filter_unapply.proofs.routing.unplaced.Goals as goal

pub loop-route-init : goal.loop-route-init
loop-route-init c =
    let S = c.args.store.now in
    let n = flat S c.args.pushed.0 in
    record {
      shows = subst (Shows S c.in_ok-stage.stage) (sym (unplaced-none n)) c.in_ok-stage.ensures.shows;
      grown = grown_self (IsMadeOf (IsIn n)) S c.store_law.ensures.store;
    }

pub without-requires-clause-root : goal.without-requires-clause-root
without-requires-clause-root c =
    has-grown c.args.store.now c.loop-route.store Tree c.args.pushed.0 c.loop-route.invariant.grown c.requires.pushed

pub without-requires-clause-shows : goal.without-requires-clause-shows
without-requires-clause-shows c =
    let S = c.args.store.now in
    let T = c.loop-route.store in
    let n = flat S c.args.pushed.0 in
    let all = c.args.entries.now in
    let i = c.loop-route.route in
    let u = unplaced (cells [] (take i all)) n in
    let s = c.loop-route.invariant.shows in
    let g = c.loop-route.invariant.grown in
    let same : flat T c.args.pushed.0 ≡ n = flat-grown S T c.args.pushed.0 g c.requires.pushed in
    let within : IsWithin u (flat T c.args.pushed.0) = λ p x e. ap (λ (v : Flat). at v p) same ∙ unplaced-in (cells [] (take i all)) n u refl p x e in
    (u, s, within)

pub returns-in_err-without-clause-err : goal.returns-in_err-without-clause-err
returns-in_err-without-clause-err c =
    let S = c.args.store.now in
    let T = c.loop-route.store in
    let n = flat S c.args.pushed.0 in
    let all = c.args.entries.now in
    let i = c.loop-route.route in
    let u = unplaced (cells [] (take i all)) n in
    let s = c.loop-route.invariant.shows in
    let g = c.loop-route.invariant.grown in
    let same : flat T c.args.pushed.0 ≡ n = flat-grown S T c.args.pushed.0 g c.requires.pushed in
    let within : IsWithin u (flat T c.args.pushed.0) = λ p x e. ap (λ (v : Flat). at v p) same ∙ unplaced-in (cells [] (take i all)) n u refl p x e in
    let more : (o : Object) → IsMadeOf (IsIn (flat T c.args.pushed.0)) o → IsMadeOf (IsIn n) o = same-known (flat T c.args.pushed.0) n same in
    err-again (IsMadeOf (IsIn (flat T c.args.pushed.0))) (IsMadeOf (IsIn n)) more c.without.new.store c.from_residual-in_err-without.result c.in_err-without.field-0.0 c.from_residual-in_err-without.ensures.1 c.in_err-without.ensures.err

pub returns-in_err-without-clause-store : goal.returns-in_err-without-clause-store
returns-in_err-without-clause-store c =
    let S = c.args.store.now in
    let T = c.loop-route.store in
    let n = flat S c.args.pushed.0 in
    let all = c.args.entries.now in
    let i = c.loop-route.route in
    let u = unplaced (cells [] (take i all)) n in
    let s = c.loop-route.invariant.shows in
    let g = c.loop-route.invariant.grown in
    let same : flat T c.args.pushed.0 ≡ n = flat-grown S T c.args.pushed.0 g c.requires.pushed in
    let within : IsWithin u (flat T c.args.pushed.0) = λ p x e. ap (λ (v : Flat). at v p) same ∙ unplaced-in (cells [] (take i all)) n u refl p x e in
    let more : (o : Object) → IsMadeOf (IsIn (flat T c.args.pushed.0)) o → IsMadeOf (IsIn n) o = same-known (flat T c.args.pushed.0) n same in
    grown_then (IsMadeOf (IsIn n)) S T c.without.new.store g (grown_as (IsMadeOf (IsIn (flat T c.args.pushed.0))) (IsMadeOf (IsIn n)) T c.without.new.store more c.without.ensures.store)

pub loop-route-preserved : goal.loop-route-preserved
loop-route-preserved c =
    let S = c.args.store.now in
    let T = c.loop-route.store in
    let n = flat S c.args.pushed.0 in
    let all = c.args.entries.now in
    let i = c.loop-route.route in
    let u = unplaced (cells [] (take i all)) n in
    let s = c.loop-route.invariant.shows in
    let g = c.loop-route.invariant.grown in
    let same : flat T c.args.pushed.0 ≡ n = flat-grown S T c.args.pushed.0 g c.requires.pushed in
    let within : IsWithin u (flat T c.args.pushed.0) = λ p x e. ap (λ (v : Flat). at v p) same ∙ unplaced-in (cells [] (take i all)) n u refl p x e in
    let more : (o : Object) → IsMadeOf (IsIn (flat T c.args.pushed.0)) o → IsMadeOf (IsIn n) o = same-known (flat T c.args.pushed.0) n same in
    let way = c.as_slice.result.now in
    let w : IsWayBack way (route_cells all i) = subst (λ es. IsWayBack es (route_cells all i)) (sym c.as_slice.ensures.value) c.in_ok-way.ensures in
    let front : cells [] (take (i + 1) all) ≡ cells [] (take i all) ++ route_cells all i = cells-front all i c.loop-route-test.true in
    record {
      shows = subst (Shows c.without.new.store c.without.new.stage) (unplaced-more (cells [] (take i all)) (route_cells all i) way n w ∙ ap (λ ks. unplaced ks n) (sym front)) (c.in_ok-without.ensures.ok u s within);
      grown = grown_then (IsMadeOf (IsIn n)) S T c.without.new.store g (grown_as (IsMadeOf (IsIn (flat T c.args.pushed.0))) (IsMadeOf (IsIn n)) T c.without.new.store more c.without.ensures.store);
    }

pub returns-in_err-finish-clause-err : goal.returns-in_err-finish-clause-err
returns-in_err-finish-clause-err c =
    let S = c.args.store.now in
    let T = c.loop-route.store in
    let n = flat S c.args.pushed.0 in
    let all = c.args.entries.now in
    let i = c.loop-route.route in
    let u = unplaced (cells [] (take i all)) n in
    let s = c.loop-route.invariant.shows in
    let g = c.loop-route.invariant.grown in
    let same : flat T c.args.pushed.0 ≡ n = flat-grown S T c.args.pushed.0 g c.requires.pushed in
    let within : IsWithin u (flat T c.args.pushed.0) = λ p x e. ap (λ (v : Flat). at v p) same ∙ unplaced-in (cells [] (take i all)) n u refl p x e in
    let made = directories-made n u s.tree (unplaced-in (cells [] (take i all)) n u refl) in
    err-by (HasDirectory u) (IsMadeOf (IsIn n)) made c.finish.new.store c.from_residual-in_err-finish.result c.in_err-finish.field-0.0 c.from_residual-in_err-finish.ensures.1 (c.in_err-finish.ensures u s).refused

pub returns-in_err-finish-clause-store : goal.returns-in_err-finish-clause-store
returns-in_err-finish-clause-store c =
    let S = c.args.store.now in
    let T = c.loop-route.store in
    let n = flat S c.args.pushed.0 in
    let all = c.args.entries.now in
    let i = c.loop-route.route in
    let u = unplaced (cells [] (take i all)) n in
    let s = c.loop-route.invariant.shows in
    let g = c.loop-route.invariant.grown in
    let same : flat T c.args.pushed.0 ≡ n = flat-grown S T c.args.pushed.0 g c.requires.pushed in
    let within : IsWithin u (flat T c.args.pushed.0) = λ p x e. ap (λ (v : Flat). at v p) same ∙ unplaced-in (cells [] (take i all)) n u refl p x e in
    let made = directories-made n u s.tree (unplaced-in (cells [] (take i all)) n u refl) in
    grown_then (IsMadeOf (IsIn n)) S T c.finish.new.store g (grown-by (HasDirectory u) (IsMadeOf (IsIn n)) made T c.finish.new.store (c.finish.ensures u s).grown)

pub returns-clause-store : goal.returns-clause-store
returns-clause-store c =
    let S = c.args.store.now in
    let T = c.loop-route.store in
    let n = flat S c.args.pushed.0 in
    let all = c.args.entries.now in
    let i = c.loop-route.route in
    let u = unplaced (cells [] (take i all)) n in
    let s = c.loop-route.invariant.shows in
    let g = c.loop-route.invariant.grown in
    let same : flat T c.args.pushed.0 ≡ n = flat-grown S T c.args.pushed.0 g c.requires.pushed in
    let within : IsWithin u (flat T c.args.pushed.0) = λ p x e. ap (λ (v : Flat). at v p) same ∙ unplaced-in (cells [] (take i all)) n u refl p x e in
    let made = directories-made n u s.tree (unplaced-in (cells [] (take i all)) n u refl) in
    grown_then (IsMadeOf (IsIn n)) S T c.finish.new.store g (grown-by (HasDirectory u) (IsMadeOf (IsIn n)) made T c.finish.new.store (c.finish.ensures u s).grown)
