use Rattle.std.proofs.Common.{inl, inr, arith}
use Rattle.std.proofs.lemmas.Result.{err_from_is_err_and}
use Rattle.stage_nodes.proofs.Paying.{paid_first, paid_second}
use Rattle.stage_nodes.proofs.Walking.{stop_within}
use Rattle.stage_nodes.proofs.OnWay.{still_on}
use Rattle.stage_tree.proofs.Moving.{both_still, both_stand, both_walk, first_clear, holds_there, judged_so, node_at, nothing_sourced, nothing_there, stands_there}
use Rattle.stage_tree.proofs.renames.find_source.Goals as goal

pub returns-in_err-open_way-clause-err : goal.returns-in_err-open_way-clause-err
returns-in_err-open_way-clause-err g c =
    let p = err_from_is_err_and c.from_residual.result c.from_residual.ensures.1 in
    rw (p.1) (record { still = c.in_err-open_way.ensures.err; refused = λ t tree st. inl p.2 })

pub returns-in_err-open_way-2-clause-err : goal.returns-in_err-open_way-2-clause-err
returns-in_err-open_way-2-clause-err g c =
    let p = err_from_is_err_and c.from_residual-in_err-open_way-2.result c.from_residual-in_err-open_way-2.ensures.1 in
    rw (p.1) (record { still = still_on c.args.store.now c.args.nodes.now c.open_way.new.self c.open_way-2.new.self c.in_ok-open_way.ensures.ok.still c.in_err-open_way-2.ensures.err; refused = λ t tree st. inl p.2 })

pub walk-way-requires-clause-nodes : goal.walk-way-requires-clause-nodes
walk-way-requires-clause-nodes g c =
    let S = c.args.store.now in let s0 = c.args.nodes.now in let s1 = c.open_way.new.self in let s2 = c.open_way-2.new.self in
    let p = c.args.from.now in let q = c.args.to.now in
    let a = c.in_ok-open_way.ensures.ok in let b = c.in_ok-open_way-2.ensures.ok in
    both_walk S s0 s1 s2 p q a b

pub reached-requires : goal.reached-requires
reached-requires g c =
    let S = c.args.store.now in let s0 = c.args.nodes.now in let s1 = c.open_way.new.self in let s2 = c.open_way-2.new.self in
    let p = c.args.from.now in let q = c.args.to.now in let w = c.walk-way.result in
    let a = c.in_ok-open_way.ensures.ok in let b = c.in_ok-open_way-2.ensures.ok in
    let still = both_still S s0 s1 s2 p q a b in
    let stop = c.walk-way.ensures (both_walk S s0 s1 s2 p q a b) (first_clear S s0 s1 s2 p q a b) in
    stop_within S s2 p w.level w.spot.link w.spot.child stop

pub returns-in_default-clause-err : goal.returns-in_default-clause-err
returns-in_default-clause-err g c =
    let S = c.args.store.now in let s0 = c.args.nodes.now in let s1 = c.open_way.new.self in let s2 = c.open_way-2.new.self in
    let p = c.args.from.now in let q = c.args.to.now in let w = c.walk-way.result in
    let a = c.in_ok-open_way.ensures.ok in let b = c.in_ok-open_way-2.ensures.ok in
    let still = both_still S s0 s1 s2 p q a b in
    let stop = c.walk-way.ensures (both_walk S s0 s1 s2 p q a b) (first_clear S s0 s1 s2 p q a b) in
    record { still = still; refused = λ t tree st. inr (nothing_sourced t p q (nothing_there S s2 p w still.opened stop c.in_default.ensures t tree (both_stand S s0 s1 s2 p q a b t st))) }

pub within-requires-clause-place : goal.within-requires-clause-place
within-requires-clause-place g c =
    let S = c.args.store.now in let s0 = c.args.nodes.now in let s1 = c.open_way.new.self in let s2 = c.open_way-2.new.self in
    let p = c.args.from.now in let q = c.args.to.now in let w = c.walk-way.result in
    let a = c.in_ok-open_way.ensures.ok in let b = c.in_ok-open_way-2.ensures.ok in
    let still = both_still S s0 s1 s2 p q a b in
    let stop = c.walk-way.ensures (both_walk S s0 s1 s2 p q a b) (first_clear S s0 s1 s2 p q a b) in
    let at = node_at S s2 p w stop c.in-Some.number c.in-Some.ensures in
    at.place

pub returns-in_err-within-clause-err : goal.returns-in_err-within-clause-err
returns-in_err-within-clause-err g c =
    let S = c.args.store.now in let s0 = c.args.nodes.now in let s1 = c.open_way.new.self in let s2 = c.open_way-2.new.self in
    let p = c.args.from.now in let q = c.args.to.now in let w = c.walk-way.result in
    let a = c.in_ok-open_way.ensures.ok in let b = c.in_ok-open_way-2.ensures.ok in
    let still = both_still S s0 s1 s2 p q a b in
    let stop = c.walk-way.ensures (both_walk S s0 s1 s2 p q a b) (first_clear S s0 s1 s2 p q a b) in
    let at = node_at S s2 p w stop c.in-Some.number c.in-Some.ensures in
    let r = err_from_is_err_and c.from_residual-in_err-within.result c.from_residual-in_err-within.ensures.1 in
    rw (r.1) (record {
      still = still;
      refused = λ t tree st.
          let here = both_stand S s0 s1 s2 p q a b t st in
          let n = stands_there S c.requires.store s2 p c.in-Some.number at t tree here in
          let holds = holds_there S c.requires.store s2 p c.in-Some.number at t tree here n.0 n.1 in
          judged_so t p q n.0 n.1 r.0 c.in_err-within.field-0.0 r.2 (c.in_err-within.ensures at.place t n.0 holds).refused;
    })

pub returns-clause-ok : goal.returns-clause-ok
returns-clause-ok g c =
    let S = c.args.store.now in let s0 = c.args.nodes.now in let s1 = c.open_way.new.self in let s2 = c.open_way-2.new.self in
    let p = c.args.from.now in let q = c.args.to.now in let w = c.walk-way.result in
    let a = c.in_ok-open_way.ensures.ok in let b = c.in_ok-open_way-2.ensures.ok in
    let still = both_still S s0 s1 s2 p q a b in
    let stop = c.walk-way.ensures (both_walk S s0 s1 s2 p q a b) (first_clear S s0 s1 s2 p q a b) in
    let at = node_at S s2 p w stop c.in-Some.number c.in-Some.ensures in
    record { still = still; clear = first_clear S s0 s1 s2 p q a b; target_clear = b.clear; at = at; fits = λ t n holds. (c.in_ok-within.ensures at.place t n holds).passed }

pub returns-in_err-open_way-clause-paid : goal.returns-in_err-open_way-clause-paid
returns-in_err-open_way-clause-paid g c = λ t st.
    omega (arith, paid_first c.args.store.now c.args.nodes.now c.open_way.new.self c.args.from.now c.args.to.now c.args.steps.now c.open_way.new.steps c.open_way.ensures.paid t st)

pub returns-in_err-open_way-2-clause-paid : goal.returns-in_err-open_way-2-clause-paid
returns-in_err-open_way-2-clause-paid g c = λ t st.
    omega (arith, paid_second c.args.store.now c.args.nodes.now c.open_way.new.self c.args.from.now c.args.to.now c.args.steps.now c.open_way.new.steps c.open_way.ensures.paid t st c.open_way-2.new.steps c.in_ok-open_way.ensures.ok c.open_way-2.ensures.paid)

pub returns-in_default-clause-paid : goal.returns-in_default-clause-paid
returns-in_default-clause-paid g c = λ t st.
    omega (arith, paid_second c.args.store.now c.args.nodes.now c.open_way.new.self c.args.from.now c.args.to.now c.args.steps.now c.open_way.new.steps c.open_way.ensures.paid t st c.open_way-2.new.steps c.in_ok-open_way.ensures.ok c.open_way-2.ensures.paid)

pub returns-in_err-within-clause-paid : goal.returns-in_err-within-clause-paid
returns-in_err-within-clause-paid g c = λ t st.
    omega (arith, paid_second c.args.store.now c.args.nodes.now c.open_way.new.self c.args.from.now c.args.to.now c.args.steps.now c.open_way.new.steps c.open_way.ensures.paid t st c.open_way-2.new.steps c.in_ok-open_way.ensures.ok c.open_way-2.ensures.paid)

pub returns-clause-paid : goal.returns-clause-paid
returns-clause-paid g c = λ t st.
    omega (arith, paid_second c.args.store.now c.args.nodes.now c.open_way.new.self c.args.from.now c.args.to.now c.args.steps.now c.open_way.new.steps c.open_way.ensures.paid t st c.open_way-2.new.steps c.in_ok-open_way.ensures.ok c.open_way-2.ensures.paid)

pub open_way-requires-clause-opened : goal.open_way-requires-clause-opened
open_way-requires-clause-opened g c = c.requires.opened

pub open_way-requires-clause-path : goal.open_way-requires-clause-path
open_way-requires-clause-path g c = c.requires.from

pub open_way-requires-2-clause-opened : goal.open_way-requires-2-clause-opened
open_way-requires-2-clause-opened g c = c.in_ok-open_way.ensures.ok.still.opened

pub open_way-requires-2-clause-path : goal.open_way-requires-2-clause-path
open_way-requires-2-clause-path g c = c.requires.to

pub walk-way-requires-clause-path : goal.walk-way-requires-clause-path
walk-way-requires-clause-path g c = c.requires.from

pub returns-in_err-open_way-clause-ok : goal.returns-in_err-open_way-clause-ok
returns-in_err-open_way-clause-ok g c = let p = err_from_is_err_and c.from_residual.result c.from_residual.ensures.1 in rw (p.1) tt

pub returns-in_err-open_way-2-clause-ok : goal.returns-in_err-open_way-2-clause-ok
returns-in_err-open_way-2-clause-ok g c = let p = err_from_is_err_and c.from_residual-in_err-open_way-2.result c.from_residual-in_err-open_way-2.ensures.1 in rw (p.1) tt

pub returns-in_err-within-clause-ok : goal.returns-in_err-within-clause-ok
returns-in_err-within-clause-ok g c = let p = err_from_is_err_and c.from_residual-in_err-within.result c.from_residual-in_err-within.ensures.1 in rw (p.1) tt

pub returns-in_default-clause-ok : goal.returns-in_default-clause-ok
returns-in_default-clause-ok g c = tt

pub returns-clause-err : goal.returns-clause-err
returns-clause-err g c = tt

pub within-requires-clause-path : goal.within-requires-clause-path
within-requires-clause-path g c = c.requires.to

pub within-requires-clause-store : goal.within-requires-clause-store
within-requires-clause-store g c = c.requires.store
