use Rattle.std.proofs.Common.{◌≡◌, ℕ, [], slice_get, sym, ap, subst, ◌∙◌, arith}
use Rattle.object_store.specs.Hands.{IsLeafOf, IsComponentOf}
use Rattle.object_store.specs.Unfolding.{flat, StandsFor}
use Rattle.path_trees.proofs.Placed.{got}
use Rattle.stage_nodes.specs.Closing.{HasDirectory}
use Rattle.stage_tree.specs.Stages.{Shows}
use Rattle.filter_apply.specs.Faults.{IsApplyFault, fault_of}
use Rattle.filter_apply.specs.Hands.{IsPartObject}
use Rattle.filter_apply.specs.Parts.{base_in}
use Rattle.filter_apply.proofs.Cones.{thin_apart}
use Rattle.filter_apply.proofs.Handing.{directory_over, err_told, left_by, left_over, next_hole, none_free, wide_is}
use Rattle.filter_apply.proofs.Overs.{fault_over, grown_over}
use Rattle.filter_apply.proofs.holes.without_holes.Goals as goal

pub returns-then-route-eq0-clause-ok : goal.returns-then-route-eq0-clause-ok
returns-then-route-eq0-clause-ok g c =
    let S = c.args.store.now in
    let t = flat S c.args.root.0 in
    let es = c.args.entries.now in
    let route = c.args.route in
    record {
      held = c.requires.root;
      map = none_free t (base_in (slice_get es route)) ∙ ap (λ (n : ℕ). left_by es route n t) (sym c.if-route-eq0.true);
    }

pub loop-i-init : goal.loop-i-init
loop-i-init g c =
    let S = c.args.store.now in
    subst (Shows S c.in_ok-stage.stage) (none_free (flat S c.args.root.0) (base_in (slice_get c.args.entries.now c.args.route))) c.in_ok-stage.ensures.shows

pub take_hole-requires-clause-cone : goal.take_hole-requires-clause-cone
take_hole-requires-clause-cone g c =
    wide_is (slice_get c.args.entries.now c.args.route) c.index-entries-route.result (got c.args.entries.now c.args.route c.index-entries-route.result c.requires.route c.index-entries-route.is) c.requires.cone

pub take_hole-requires-clause-apart : goal.take_hole-requires-clause-apart
take_hole-requires-clause-apart g c =
    let l = c.loop-i-test.true in
    let m = c.requires.route in
    thin_apart [] c.args.entries.now c.loop-i.i c.args.route c.index-entries-i.result c.index-entries-route.result c.requires.thin
    (got c.args.entries.now c.loop-i.i c.index-entries-i.result (omega arith) c.index-entries-i.is) (got c.args.entries.now c.args.route c.index-entries-route.result m c.index-entries-route.is) l

pub loop-i-preserved : goal.loop-i-preserved
loop-i-preserved g c =
    let S = c.args.store.now in
    let l = c.loop-i-test.true in
    let m = c.requires.route in
    next_hole S c.args.entries.now c.args.route (flat S c.args.root.0) c.loop-i.i c.index-entries-i.result c.index-entries-route.result c.loop-i.stage c.take_hole.new.stage
    (omega arith) c.index-entries-i.is (got c.args.entries.now c.args.route c.index-entries-route.result m c.index-entries-route.is) c.in_ok-take_hole.ensures c.loop-i.invariant

pub returns-in_err-finish-clause-err : goal.returns-in_err-finish-clause-err
returns-in_err-finish-clause-err g c =
    let t = flat c.args.store.now c.args.root.0 in
    let u = left_by c.args.entries.now c.args.route c.loop-i.i t in
    let e = c.in_err-finish.field-0.0 in
    err_told (IsApplyFault (IsPartObject t) c.finish.new.store) c.from_residual-in_err-finish.result (fault_of e) c.from_residual-in_err-finish.ensures.1
    (fault_over (IsLeafOf t) (IsComponentOf t) (HasDirectory u) c.finish.new.store e (directory_over t u c.loop-i.invariant.tree (left_over c.args.entries.now c.args.route c.loop-i.i t)) (c.in_err-finish.ensures u c.loop-i.invariant).refused)

pub returns-in_err-finish-clause-store : goal.returns-in_err-finish-clause-store
returns-in_err-finish-clause-store g c =
    let t = flat c.args.store.now c.args.root.0 in
    let u = left_by c.args.entries.now c.args.route c.loop-i.i t in
    grown_over (IsLeafOf t) (IsComponentOf t) (HasDirectory u) c.args.store.now c.finish.new.store (directory_over t u c.loop-i.invariant.tree (left_over c.args.entries.now c.args.route c.loop-i.i t)) (c.finish.ensures u c.loop-i.invariant).grown

pub returns-clause-ok : goal.returns-clause-ok
returns-clause-ok g c =
    let t = flat c.args.store.now c.args.root.0 in
    let u = left_by c.args.entries.now c.args.route c.loop-i.i t in
    let above = c.loop-i-test.false in
    let within = c.loop-i.auto.i-end in
    let last : c.loop-i.i ≡ c.args.route = omega arith in
    subst (λ (n : ℕ). StandsFor c.finish.new.store c.in_ok-finish.field-0.0 (left_by c.args.entries.now c.args.route n t)) last (c.in_ok-finish.ensures u c.loop-i.invariant).named

pub returns-clause-store : goal.returns-clause-store
returns-clause-store g c =
    let t = flat c.args.store.now c.args.root.0 in
    let u = left_by c.args.entries.now c.args.route c.loop-i.i t in
    grown_over (IsLeafOf t) (IsComponentOf t) (HasDirectory u) c.args.store.now c.finish.new.store (directory_over t u c.loop-i.invariant.tree (left_over c.args.entries.now c.args.route c.loop-i.i t)) (c.finish.ensures u c.loop-i.invariant).grown
