use Rattle.std.proofs.Common.{◌+◌, ◌≤◌, ◌↔◌, ℕ, suc, [], List, Contains, map, take, drop, get_or, length, refl, ap, subst, sym, arith}
use Rattle.std.specs.List.Sorted.{IsStrictlyIncreasing}
use Rattle.std.proofs.lemmas.List.{take_all, take_more}
use Rattle.std.proofs.lemmas.Result.{err_from_is_err_and}
use Rattle.git_objects.specs.Parts.{name_bytes}
use Rattle.git_objects.specs.declared.name.Name.{Name}
use Rattle.filter_text.specs.Shapes.{shape}
use Rattle.commit_graph.specs.Graphs.{Reaches}
use Rattle.filter_apply.specs.Faults.{IsApplyFault}
use Rattle.projection_laws.specs.StoredGraphs.{name_at}
use Rattle.history_ground.specs.Histories.{IsOfHistory}
use Rattle.history_ground.proofs.TakingLemmas.{IsTaking, ready, split-take, taking-end, taking-fault, taking-more, taking-same, taking-start}
use Rattle.projection_ground.proofs.TurnLemmas.{handed-on}
use Rattle.history_ground.proofs.histories.take_all.Goals as goal

pub loop-place-init : goal.loop-place-init
loop-place-init c =
    let g = c.args.ground.now in
    subst (IsTaking (shape c.args.filter.now) c.args.head g g c.args.asked.now []) (sym (ap (λ (ks : List Name). map name_bytes ks) c.new-made.ensures.empty))
    (taking-start (shape c.args.filter.now) c.args.head g c.args.asked.now c.requires.ground c.requires.empty c.requires.asked)

pub take_in-requires-clause-ground : goal.take_in-requires-clause-ground
take_in-requires-clause-ground c = c.loop-place.invariant.same.ground

pub take_in-requires-clause-ready : goal.take_in-requires-clause-ready
take_in-requires-clause-ready c =
    let f = shape c.args.filter.now in
    let g = c.args.ground.now in
    let v = c.deref-place-items.result.now in
    let up : IsStrictlyIncreasing v = subst IsStrictlyIncreasing (sym c.deref-place-items.ensures.value) c.in_ok-places.ensures.rising in
    let all : (i : ℕ) → Contains v i ↔ Reaches g.graph c.args.head i = subst (λ (xs : List ℕ). (i : ℕ) → Contains xs i ↔ Reaches g.graph c.args.head i) (sym c.deref-place-items.ensures.value) c.in_ok-places.ensures.exact in
    let i = c.loop-place.place-index in
    let ns = map name_bytes c.loop-place.made.keys in
    let split = split-take v i 0 c.loop-place-test.true in
    ready f g c.requires.ground c.args.head c.requires.head v up all (take i v) (get_or v i 0) (drop (suc i) v) split c.loop-place.ground c.loop-place.asked ns c.loop-place.invariant

pub take_in-requires-clause-asked : goal.take_in-requires-clause-asked
take_in-requires-clause-asked c = c.loop-place.invariant.asked_for

pub returns-in_err-take_in-clause-same : goal.returns-in_err-take_in-clause-same
returns-in_err-take_in-clause-same c =
    let f = shape c.args.filter.now in
    let g = c.args.ground.now in
    let v = c.deref-place-items.result.now in
    let up : IsStrictlyIncreasing v = subst IsStrictlyIncreasing (sym c.deref-place-items.ensures.value) c.in_ok-places.ensures.rising in
    let all : (i : ℕ) → Contains v i ↔ Reaches g.graph c.args.head i = subst (λ (xs : List ℕ). (i : ℕ) → Contains xs i ↔ Reaches g.graph c.args.head i) (sym c.deref-place-items.ensures.value) c.in_ok-places.ensures.exact in
    let i = c.loop-place.place-index in
    let ns = map name_bytes c.loop-place.made.keys in
    let split = split-take v i 0 c.loop-place-test.true in
    taking-same f g c.requires.ground c.args.head c.requires.head v up all (take i v) (get_or v i 0) (drop (suc i) v) split c.loop-place.ground c.loop-place.asked ns c.loop-place.invariant c.take_in.new.ground c.take_in.ensures.same

pub returns-in_err-take_in-clause-err : goal.returns-in_err-take_in-clause-err
returns-in_err-take_in-clause-err c =
    let f = shape c.args.filter.now in
    let g = c.args.ground.now in
    let v = c.deref-place-items.result.now in
    let up : IsStrictlyIncreasing v = subst IsStrictlyIncreasing (sym c.deref-place-items.ensures.value) c.in_ok-places.ensures.rising in
    let all : (i : ℕ) → Contains v i ↔ Reaches g.graph c.args.head i = subst (λ (xs : List ℕ). (i : ℕ) → Contains xs i ↔ Reaches g.graph c.args.head i) (sym c.deref-place-items.ensures.value) c.in_ok-places.ensures.exact in
    let i = c.loop-place.place-index in
    let ns = map name_bytes c.loop-place.made.keys in
    let split = split-take v i 0 c.loop-place-test.true in
    let q = err_from_is_err_and c.from_residual-in_err-take_in.result c.from_residual-in_err-take_in.ensures.1 in
    handed-on (IsApplyFault (IsOfHistory f g (name_at g.graph c.args.head)) c.take_in.new.ground.store) c.from_residual-in_err-take_in.result q.0 c.in_err-take_in.field-0.0 q.1 q.2
    (taking-fault f g c.requires.ground c.args.head c.requires.head v up all (take i v) (get_or v i 0) (drop (suc i) v) split c.loop-place.ground c.loop-place.asked ns c.loop-place.invariant c.take_in.new.ground c.take_in.ensures.same c.in_err-take_in.field-0.0 c.in_err-take_in.ensures.err)

pub loop-place-preserved : goal.loop-place-preserved
loop-place-preserved c =
    let f = shape c.args.filter.now in
    let g = c.args.ground.now in
    let v = c.deref-place-items.result.now in
    let up : IsStrictlyIncreasing v = subst IsStrictlyIncreasing (sym c.deref-place-items.ensures.value) c.in_ok-places.ensures.rising in
    let all : (i : ℕ) → Contains v i ↔ Reaches g.graph c.args.head i = subst (λ (xs : List ℕ). (i : ℕ) → Contains xs i ↔ Reaches g.graph c.args.head i) (sym c.deref-place-items.ensures.value) c.in_ok-places.ensures.exact in
    let i = c.loop-place.place-index in
    let ns = map name_bytes c.loop-place.made.keys in
    let split = split-take v i 0 c.loop-place-test.true in
    taking-more f g c.requires.ground c.args.head c.requires.head v up all (take i v) (get_or v i 0) (drop (suc i) v) split c.loop-place.ground c.loop-place.asked ns c.loop-place.invariant c.take_in.new.ground c.take_in.ensures.same c.take_in.new.asked (map name_bytes c.take_in.new.made.keys) (map name_bytes c.take_in.new.made.keys) (take (i + 1) v)
    (take_more v i 0 c.loop-place-test.true) refl c.take_in.ensures.asked c.in_ok-take_in.ensures.ok

pub returns-clause-ok : goal.returns-clause-ok
returns-clause-ok c =
    let f = shape c.args.filter.now in
    let g = c.args.ground.now in
    let v = c.deref-place-items.result.now in
    let up : IsStrictlyIncreasing v = subst IsStrictlyIncreasing (sym c.deref-place-items.ensures.value) c.in_ok-places.ensures.rising in
    let all : (i : ℕ) → Contains v i ↔ Reaches g.graph c.args.head i = subst (λ (xs : List ℕ). (i : ℕ) → Contains xs i ↔ Reaches g.graph c.args.head i) (sym c.deref-place-items.ensures.value) c.in_ok-places.ensures.exact in
    let end : length v ≤ c.loop-place.place-index = let b = c.loop-place-test.false in omega (arith, b) in
    taking-end f g c.requires.ground c.args.head c.requires.head v up all c.loop-place.ground c.loop-place.asked (take c.loop-place.place-index v) (map name_bytes c.loop-place.made.keys) (take_all c.loop-place.place-index v end) c.loop-place.invariant

pub returns-clause-same : goal.returns-clause-same
returns-clause-same c = c.loop-place.invariant.same
