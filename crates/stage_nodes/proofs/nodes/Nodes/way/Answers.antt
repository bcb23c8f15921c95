use Rattle.std.proofs.Common.{◌≡◌, ◌+◌, ◌-◌, ℕ, List, [], ◌∷◌, length, take, get_or, refl, sym, ap, subst, ◌∙◌, arith, length-append}
use Rattle.path_trees.proofs.Lookups.{read_at, path_long}
use Rattle.stage_nodes.specs.declared.nodes.Link.TheVariants.{First}
use Rattle.stage_nodes.specs.Ways.{IsEntered, IsStart, IsWayBy}
use Rattle.stage_nodes.proofs.OnWay.{still_on}
use Rattle.stage_nodes.proofs.Onward.{start_link, start_walk, place_on, on_last, on_blocked, on_entered}
use Rattle.stage_nodes.proofs.nodes.Nodes.way.Goals as goal

pub spot_from-spot-requires-clause-link : goal.spot_from-spot-requires-clause-link
spot_from-spot-requires-clause-link c = let i = c.loop-level.invariant in start_link c.args.store.now c.loop-level.self c.args.components.now c.loop-level.passed.items c.loop-level.link i.still.opened i.start

pub spot_from-spot-requires-clause-walk : goal.spot_from-spot-requires-clause-walk
spot_from-spot-requires-clause-walk c = let i = c.loop-level.invariant in start_walk c.args.store.now c.loop-level.self c.args.components.now c.loop-level.passed.items c.loop-level.link i.still.opened i.start

pub entered-requires-clause-place : goal.entered-requires-clause-place
entered-requires-clause-place c =
    let i = c.loop-level.invariant in
    let p = c.args.components.now in
    let own = read_at p p c.loop-level.level c.index-components-level.result c.bytes.result.now refl c.bytes.ensures.bytes c.index-components-level.is in
    record {
      path = take (length c.loop-level.passed.items) p;
      component = c.bytes.result.now;
      link = c.spot_from-spot.result.link;
      place = place_on c.args.store.now c.loop-level.self p c.loop-level.passed.items c.loop-level.link i.still.opened i.start c.bytes.result.now (own ∙ ap (λ k. get_or p k c.bytes.result.now) i.level_is) c.spot_from-spot.result.link c.spot_from-spot.result.child c.spot_from-spot.ensures.link c.spot_from-spot.ensures.child;
    }

pub returns-in-None-clause-ok : goal.returns-in-None-clause-ok
returns-in-None-clause-ok c =
    let S = c.args.store.now in
    let i = c.loop-level.invariant in
    let p = c.args.components.now in
    let own = read_at p p c.loop-level.level c.index-components-level.result c.bytes.result.now refl c.bytes.ensures.bytes c.index-components-level.is in
    let e = subst (IsEntered S c.loop-level.self c.entered.new.self c.spot_from-spot.result.child) c.in-None.is c.in_ok-number.ensures.ok in
    subst (λ k. IsWayBy S c.args.self.now c.entered.new.self p c.loop-level.passed.items k c.spot_from-spot.result.link c.spot_from-spot.result.child) (sym i.level_is)
    (on_blocked S c.loop-level.self p c.loop-level.passed.items c.loop-level.link i.still.opened i.start c.bytes.result.now (own ∙ ap (λ k. get_or p k c.bytes.result.now) i.level_is) c.spot_from-spot.result.link c.spot_from-spot.result.child c.spot_from-spot.ensures.link c.spot_from-spot.ensures.child
    c.args.self.now i.still c.entered.new.self e)

pub loop-level-preserved : goal.loop-level-preserved
loop-level-preserved c =
    let S = c.args.store.now in
    let i = c.loop-level.invariant in
    let p = c.args.components.now in
    let own = read_at p p c.loop-level.level c.index-components-level.result c.bytes.result.now refl c.bytes.ensures.bytes c.index-components-level.is in
    let e = subst (IsEntered S c.loop-level.self c.entered.new.self c.spot_from-spot.result.child) c.in-Some.is c.in_ok-number.ensures.ok in
    let pushed = c.in_ok-push-in-Some.ensures.items in
    record {
      still = still_on S c.args.self.now c.loop-level.self c.entered.new.self i.still e.0;
      level_is = ap (λ k. k + 1) i.level_is ∙ sym (length-append c.loop-level.passed.items (c.in-Some.number ∷ [])) ∙ ap length (sym pushed);
      start = subst (λ (ns : List ℕ). IsStart S c.entered.new.self p ns (First c.in-Some.number)) (sym pushed)
          (on_entered S c.loop-level.self p c.loop-level.passed.items c.loop-level.link i.still.opened i.start c.bytes.result.now (own ∙ ap (λ k. get_or p k c.bytes.result.now) i.level_is) c.spot_from-spot.result.link c.spot_from-spot.result.child c.spot_from-spot.ensures.link c.spot_from-spot.ensures.child
          c.entered.new.self c.in-Some.number (let l = i.level_is in omega (arith, l)) e);
    }

pub spot_from-spot-requires-2-clause-link : goal.spot_from-spot-requires-2-clause-link
spot_from-spot-requires-2-clause-link c = let i = c.loop-level.invariant in start_link c.args.store.now c.loop-level.self c.args.components.now c.loop-level.passed.items c.loop-level.link i.still.opened i.start

pub spot_from-spot-requires-2-clause-walk : goal.spot_from-spot-requires-2-clause-walk
spot_from-spot-requires-2-clause-walk c = let i = c.loop-level.invariant in start_walk c.args.store.now c.loop-level.self c.args.components.now c.loop-level.passed.items c.loop-level.link i.still.opened i.start

pub returns-clause-ok : goal.returns-clause-ok
returns-clause-ok c =
    let S = c.args.store.now in
    let i = c.loop-level.invariant in
    let p = c.args.components.now in
    let long = path_long p c.requires.path in
    let l = i.level_is in
    let within = i.start.within in
    let same : length p - 1 ≡ length c.loop-level.passed.items = omega (arith, l, within, long) in
    let own = read_at p p (length p - 1) c.index-components-last.result c.bytes-2.result.now refl c.bytes-2.ensures.bytes c.index-components-last.is in
    subst (λ k. IsWayBy S c.args.self.now c.loop-level.self p c.loop-level.passed.items k c.spot_from-spot-2.result.link c.spot_from-spot-2.result.child) (sym same)
    (on_last S c.loop-level.self p c.loop-level.passed.items c.loop-level.link i.still.opened i.start c.bytes-2.result.now (own ∙ ap (λ k. get_or p k c.bytes-2.result.now) same) c.spot_from-spot-2.result.link c.spot_from-spot-2.result.child c.spot_from-spot-2.ensures.link c.spot_from-spot-2.ensures.child
    c.args.self.now i.still (omega (arith, same, long)))
