use Rattle.std.proofs.Common.{◌≡◌, ℕ, zero, suc, ◌+◌, ◌<◌, true, false, true≢false, length, arith, refl, sym, ap, subst, ◌∙◌}
use Rattle.std.proofs.lemmas.Result.{err_from_is_err_and}
use Rattle.filter_text.specs.Shapes.{shape}
use Rattle.filter_apply.specs.Faults.{IsApplyFault}
use Rattle.history_ground.specs.Origins.{AreFirsts, Firsts, IsProjectionObject, first_values}
use Rattle.history_ground.proofs.AllProjections.{AreProjected, fault-more, map-still, named-there, projected-end, projected-none, projected-nothing, projected-some, projected-start, projected-tables, walked-on}
use Rattle.projection_ground.proofs.TurnLemmas.{handed-on, tree-held}
use Rattle.history_ground.proofs.origins.firsts_upon.Goals as goal
use Rattle.history_ground.proofs.origins.firsts_upon.Goals.{in-Some+in_ok-add, in_default}

pub returns-then-is_empty-clause-ok : goal.returns-then-is_empty-clause-ok
returns-then-is_empty-clause-ok c =
    let f = shape c.args.filter.now in
    let g = c.args.ground.now in
    subst (λ (os : Firsts). AreFirsts f g g.store os) (sym (ap first_values c.new.ensures.empty)) (projected-nothing f g c.requires.ground c.requires.map (c.if-is_empty.ensures.0 refl))

-- a length that isn't 0
some : (n : ℕ) → (n ≡ 0 → false ≡ true) → 0 < n
some zero f = absurd (true≢false (sym (f refl)))
some (suc n) f = omega arith

pub new-requires-2-clause-root : goal.new-requires-2-clause-root
new-requires-2-clause-root c = tree-held c.args.ground.now 0 c.tree-root.result.0 c.requires.ground (some (length c.args.ground.now.graph) c.if-is_empty.ensures.1) c.tree-root.ensures

pub returns-in_err-asked-clause-projected : goal.returns-in_err-asked-clause-projected
returns-in_err-asked-clause-projected c = projected-tables (shape c.args.filter.now) c.args.ground.now c.new-2.new.ground c.requires.ground c.new-2.ensures.same c.new-2.ensures.map c.requires.map

pub loop-place-init : goal.loop-place-init
loop-place-init c =
    let f = shape c.args.filter.now in
    let g = c.args.ground.now in
    let h = c.new-2.new.ground in
    record {
      so_far = subst (λ (os : Firsts). AreProjected f g h 0 os) (sym (ap first_values c.new.ensures.empty))
          (projected-start f g h c.requires.ground (projected-tables f g h c.requires.ground c.new-2.ensures.same c.new-2.ensures.map c.requires.map));
      asked_for = c.in_ok-asked.ensures.asked;
      end = c.len-place-end.ensures.len ∙ ap length c.new-2.ensures.same.graph;
    }

pub made_to-requires-clause-head : goal.made_to-requires-clause-head
made_to-requires-clause-head c =
    let g = c.args.ground.now in
    let t = c.loop-place-test.true in
    let e = c.loop-place.invariant.end in
    let l : c.loop-place.place < length g.graph = omega (arith, t, e) in
    named-there (shape c.args.filter.now) g c.loop-place.ground c.requires.ground c.loop-place.invariant.so_far.done c.loop-place.place c.name-name.result.0 l c.name-name.ensures

pub made_to-requires-clause-map : goal.made_to-requires-clause-map
made_to-requires-clause-map c = map-still (shape c.args.filter.now) c.args.ground.now c.loop-place.ground c.requires.ground c.loop-place.invariant.so_far.done

pub returns-in_err-shown-clause-projected : goal.returns-in_err-shown-clause-projected
returns-in_err-shown-clause-projected c =
    let g = c.args.ground.now in
    let t = c.loop-place-test.true in
    let e = c.loop-place.invariant.end in
    let l : c.loop-place.place < length g.graph = omega (arith, t, e) in
    walked-on (shape c.args.filter.now) g c.loop-place.ground c.requires.ground c.loop-place.invariant.so_far.done c.loop-place.place c.name-name.result.0 l c.name-name.ensures c.made_to.new.ground c.made_to.ensures.walked

pub returns-in_err-shown-clause-err : goal.returns-in_err-shown-clause-err
returns-in_err-shown-clause-err c =
    let f = shape c.args.filter.now in
    let g = c.args.ground.now in
    let S = c.made_to.new.ground.store in
    let t = c.loop-place-test.true in
    let e = c.loop-place.invariant.end in
    let l : c.loop-place.place < length g.graph = omega (arith, t, e) in
    let p = err_from_is_err_and c.from_residual-in_err-shown.result c.from_residual-in_err-shown.ensures.1 in
    handed-on (IsApplyFault (IsProjectionObject f g) S) c.from_residual-in_err-shown.result p.0 c.in_err-shown.field-0.0 p.1 p.2
    (fault-more f g c.loop-place.ground c.requires.ground c.loop-place.invariant.so_far.done c.loop-place.place c.name-name.result.0 l c.name-name.ensures S c.in_err-shown.field-0.0 c.in_err-shown.ensures.err)

pub returns-in_err-add-clause-projected : goal.returns-in_err-add-clause-projected
returns-in_err-add-clause-projected c =
    let g = c.args.ground.now in
    let t = c.loop-place-test.true in
    let e = c.loop-place.invariant.end in
    let l : c.loop-place.place < length g.graph = omega (arith, t, e) in
    walked-on (shape c.args.filter.now) g c.loop-place.ground c.requires.ground c.loop-place.invariant.so_far.done c.loop-place.place c.name-name.result.0 l c.name-name.ensures c.made_to.new.ground c.made_to.ensures.walked

pub loop-place-preserved : goal.loop-place-preserved
loop-place-preserved c =
    let f = shape c.args.filter.now in
    let g = c.args.ground.now in
    let k = c.made_to.new.ground in
    let so = c.loop-place.invariant.so_far in
    let t = c.loop-place-test.true in
    let e = c.loop-place.invariant.end in
    let l : c.loop-place.place < length g.graph = omega (arith, t, e) in
    elim c.match-branch-3.branch [
      | in-Some+in_ok-add w ↦ record {
        so_far = subst (λ (os : Firsts). AreProjected f g k (c.loop-place.place + 1) os) (sym (w.origins-is ∙ w.in_ok-add.ensures))
            (projected-some f g c.loop-place.ground c.requires.ground so.done c.loop-place.place c.name-name.result.0 l c.name-name.ensures k c.made_to.ensures.walked c.loop-place.origins so c.in_ok-shown.field-0 c.in_ok-shown.ensures.ok w.in-Some.shown w.in-Some.is);
        asked_for = c.made_to.ensures.asked;
        end = e;
      }
      | in_default w ↦ record {
        so_far = subst (λ (os : Firsts). AreProjected f g k (c.loop-place.place + 1) os) (sym w.origins-is)
            (projected-none f g c.loop-place.ground c.requires.ground so.done c.loop-place.place c.name-name.result.0 l c.name-name.ensures k c.made_to.ensures.walked c.loop-place.origins so c.in_ok-shown.field-0 c.in_ok-shown.ensures.ok w.in_default.is);
        asked_for = c.made_to.ensures.asked;
        end = e;
      }
    ]

pub returns-clause-ok : goal.returns-clause-ok
returns-clause-ok c =
    let g = c.args.ground.now in
    let t = c.loop-place-test.false in
    let e = c.loop-place.invariant.end in
    projected-end (shape c.args.filter.now) g c.loop-place.ground c.loop-place.place c.loop-place.origins c.requires.ground (omega (arith, t, e)) c.loop-place.invariant.so_far
