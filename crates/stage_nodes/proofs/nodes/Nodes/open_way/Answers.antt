use Rattle.std.proofs.Common.{◌≡◌, ◌+◌, ◌<◌, length, ap, refl, subst, arith, take}
use Rattle.std.proofs.lemmas.Result.{err_from_is_err_and}
use Rattle.path_trees.proofs.Lookups.{read_at, path_long}
use Rattle.git_objects.specs.Paths.{Path}
use Rattle.stage_nodes.specs.Ways.{IsEntered, IsDirOf}
use Rattle.stage_nodes.proofs.OnWay.{still_same, still_on, at_root, dir_link, dir_walk, here_now, one_longer}
use Rattle.stage_nodes.proofs.Clearing.{cleared_blocked, cleared_all}
use Rattle.stage_nodes.specs.Walks.{beginnings, beside, entries_of}
use Rattle.stage_nodes.proofs.Paying.{paid_further, paid_way}
use Rattle.stage_nodes.proofs.nodes.Nodes.open_way.Goals as goal

pub loop-level-init : goal.loop-level-init
loop-level-init g c = let S = c.args.store.now in record { still = still_same S c.args.self.now c.requires.opened; kept = λ q h. h; dir = at_root S c.args.self.now c.requires.opened.directory c.requires.opened.sound; paid = λ t st z clear. omega arith }

pub spot-spot-requires-clause-link : goal.spot-spot-requires-clause-link
spot-spot-requires-clause-link g c = dir_link c.args.store.now c.loop-level.self (take c.loop-level.level c.args.components.now) c.loop-level.directory c.loop-level.invariant.still.opened.directory c.loop-level.invariant.dir

pub spot-spot-requires-clause-walk : goal.spot-spot-requires-clause-walk
spot-spot-requires-clause-walk g c = dir_walk c.args.store.now c.loop-level.self (take c.loop-level.level c.args.components.now) c.loop-level.directory c.loop-level.invariant.still.opened.directory c.loop-level.invariant.dir

pub enter-requires-clause-place : goal.enter-requires-clause-place
enter-requires-clause-place g c =
    let p = c.args.components.now in
    let own = read_at p p c.loop-level.level c.index-components-level.result c.bytes.result.now refl c.bytes.ensures.bytes c.index-components-level.is in
    record {
      path = take c.loop-level.level p;
      component = c.bytes.result.now;
      link = c.spot-spot.result.link;
      place = here_now c.args.store.now c.args.self.now c.loop-level.self p c.loop-level.level c.loop-level.directory c.loop-level.invariant.dir c.loop-level.invariant.still c.bytes.result.now (omega arith) own c.spot-spot.result.link c.spot-spot.result.child c.spot-spot.ensures.link c.spot-spot.ensures.child;
    }

pub returns-in-None-clause-ok : goal.returns-in-None-clause-ok
returns-in-None-clause-ok g c =
    let S = c.args.store.now in
    let p = c.args.components.now in
    let i = c.loop-level.invariant in
    let own = read_at p p c.loop-level.level c.index-components-level.result c.bytes.result.now refl c.bytes.ensures.bytes c.index-components-level.is in
    let e = subst (IsEntered S c.loop-level.self c.enter.new.self c.spot-spot.result.child) c.in-None.is c.in_ok-number.ensures.ok in
    cleared_blocked S c.args.self.now c.loop-level.self c.enter.new.self p c.loop-level.level c.loop-level.directory i.dir i.still i.kept c.bytes.result.now (omega arith) own c.spot-spot.result.link c.spot-spot.result.child c.spot-spot.ensures.link c.spot-spot.ensures.child
    e.0 e.1

pub loop-level-preserved : goal.loop-level-preserved
loop-level-preserved g c =
    let S = c.args.store.now in
    let p = c.args.components.now in
    let i = c.loop-level.invariant in
    let own = read_at p p c.loop-level.level c.index-components-level.result c.bytes.result.now refl c.bytes.ensures.bytes c.index-components-level.is in
    let here = here_now S c.args.self.now c.loop-level.self p c.loop-level.level c.loop-level.directory i.dir i.still c.bytes.result.now (omega arith) own c.spot-spot.result.link c.spot-spot.result.child c.spot-spot.ensures.link c.spot-spot.ensures.child in
    let e = subst (IsEntered S c.loop-level.self c.enter.new.self c.spot-spot.result.child) c.in-Some.is c.in_ok-number.ensures.ok in
    let within : c.loop-level.level < length p = omega arith in
    record {
      still = still_on S c.args.self.now c.loop-level.self c.enter.new.self i.still e.0;
      kept = λ q h. c.in_ok-number.ensures.clear q (i.kept q h);
      dir = subst (λ (q : Path). IsDirOf S c.enter.new.self q c.in-Some.number) (one_longer p c.loop-level.level c.bytes.result.now within own) (e.1 (take c.loop-level.level p) c.bytes.result.now c.spot-spot.result.link here).directory;
      paid = paid_further S c.args.self.now c.loop-level.self p c.loop-level.level c.loop-level.directory i.dir i.still i.kept c.bytes.result.now (omega arith) own c.spot-spot.result.link c.spot-spot.result.child c.spot-spot.ensures.link c.spot-spot.ensures.child c.args.steps.now c.loop-level.steps c.enter.new.steps i.paid c.enter.ensures.paid;
    }

pub returns-clause-ok : goal.returns-clause-ok
returns-clause-ok g c =
    let p = c.args.components.now in
    let i = c.loop-level.invariant in
    let long = path_long p c.requires.path in
    cleared_all c.args.store.now c.args.self.now c.loop-level.self p c.loop-level.level c.loop-level.directory i.dir i.still i.kept (omega arith)

pub returns-in_err-number-clause-paid : goal.returns-in_err-number-clause-paid
returns-in_err-number-clause-paid g c =
    let S = c.args.store.now in
    let p = c.args.components.now in
    let i = c.loop-level.invariant in
    let own = read_at p p c.loop-level.level c.index-components-level.result c.bytes.result.now refl c.bytes.ensures.bytes c.index-components-level.is in
    paid_way S c.args.self.now c.loop-level.self p c.loop-level.level c.loop-level.directory i.dir i.still i.kept c.bytes.result.now (omega arith) own c.spot-spot.result.link c.spot-spot.result.child c.spot-spot.ensures.link c.spot-spot.ensures.child c.args.steps.now c.loop-level.steps c.enter.new.steps i.paid c.enter.ensures.paid (omega arith)

pub returns-in-None-clause-paid : goal.returns-in-None-clause-paid
returns-in-None-clause-paid g c =
    let S = c.args.store.now in
    let p = c.args.components.now in
    let i = c.loop-level.invariant in
    let own = read_at p p c.loop-level.level c.index-components-level.result c.bytes.result.now refl c.bytes.ensures.bytes c.index-components-level.is in
    paid_way S c.args.self.now c.loop-level.self p c.loop-level.level c.loop-level.directory i.dir i.still i.kept c.bytes.result.now (omega arith) own c.spot-spot.result.link c.spot-spot.result.child c.spot-spot.ensures.link c.spot-spot.ensures.child c.args.steps.now c.loop-level.steps c.enter.new.steps i.paid c.enter.ensures.paid (omega arith)

pub returns-clause-paid : goal.returns-clause-paid
returns-clause-paid g c = λ t st z clear.
    let p = c.args.components.now in
    let long = path_long p c.requires.path in
    let same : c.loop-level.level + 1 ≡ length p = omega arith in
    omega (arith, c.loop-level.invariant.paid t st z clear, ap (λ k. entries_of t (beside z (beginnings p k))) same)

pub returns-in-None-clause-err : goal.returns-in-None-clause-err
returns-in-None-clause-err g c = tt

pub returns-clause-err : goal.returns-clause-err
returns-clause-err g c = tt

pub returns-in_err-number-clause-ok : goal.returns-in_err-number-clause-ok
returns-in_err-number-clause-ok g c = let p = err_from_is_err_and c.from_residual.result c.from_residual.ensures.1 in rw (p.1) tt
