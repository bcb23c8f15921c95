use Rattle.std.proofs.Common.{◌++◌, ◌∷◌, length, List, ℕ, [], sym, subst, ap, ◌∙◌}
use Rattle.std.proofs.lemmas.Result.{err_from_is_err_and}
use Rattle.filter_text.specs.Shapes.{shape}
use Rattle.filter_apply.specs.Faults.{IsApplyFault}
use Rattle.projection_laws.specs.StoredGraphs.{name_at}
use Rattle.history_ground.specs.Heads.{IsSeenObject}
use Rattle.history_ground.proofs.TrueWalking.{IsMaking, making-below, making-fault, making-more, making-start, smaller-more, smaller-still, true-below, true-entered, walked-still}
use Rattle.projection_ground.proofs.TurnLemmas.{handed-on}
use Rattle.history_ground.proofs.making.walk.Goals as goal

pub loop-place-init : goal.loop-place-init
loop-place-init c =
    let f = shape c.args.filter.now in
    let old = c.args.ground.now in
    subst (IsMaking f c.args.head old old c.args.asked.now)
    (sym (c.in_ok-wait.ensures ∙ ap (λ (xs : List ℕ). xs ++ c.args.head ∷ []) c.new-waiting.ensures.items))
    (making-start f c.args.head old c.args.asked.now c.requires.ground c.requires.place c.requires.lacked c.requires.map c.requires.asked)

pub returns-in_err-below-clause-walked : goal.returns-in_err-below-clause-walked
returns-in_err-below-clause-walked c =
    walked-still (shape c.args.filter.now) c.args.head c.args.ground.now c.loop-place.ground c.step.new.ground c.requires.ground c.loop-place.asked c.step.new.asked c.loop-place.waiting.items c.pop.new.self.items c.in-Some.place c.in-Some.ensures.items
    c.loop-place.invariant c.step.ensures.same c.in_err-below.ensures.step

pub returns-in_err-below-clause-err : goal.returns-in_err-below-clause-err
returns-in_err-below-clause-err c =
    let f = shape c.args.filter.now in
    let old = c.args.ground.now in
    let made = IsSeenObject f old (name_at old.graph c.args.head) in
    let p = err_from_is_err_and c.from_residual-in_err-below.result c.from_residual-in_err-below.ensures.1 in
    handed-on (IsApplyFault made c.step.new.ground.store) c.from_residual-in_err-below.result p.0 c.in_err-below.field-0.0 p.1 p.2
    (making-fault f c.args.head old c.loop-place.ground c.step.new.ground c.requires.ground c.loop-place.asked c.step.new.asked c.loop-place.waiting.items c.pop.new.self.items c.in-Some.place c.in-Some.ensures.items
    c.loop-place.invariant c.in_err-below.field-0.0 c.in_err-below.ensures.err)

pub loop-place-preserved-in-Continue-branch-4 : goal.loop-place-preserved-in-Continue-branch-4
loop-place-preserved-in-Continue-branch-4 c =
    let f = shape c.args.filter.now in
    let x = true-below f c.in-Some.place c.in-Some-2.below c.loop-place.ground c.step.new.ground c.in_ok-below.field-0 c.in_ok-below.ensures.step c.in-Some-2.is in
    making-below f c.args.head c.args.ground.now c.loop-place.ground c.step.new.ground c.requires.ground c.loop-place.asked c.step.new.asked c.loop-place.waiting.items c.pop.new.self.items c.in-Some.place c.in-Some.ensures.items
    c.loop-place.invariant c.step.ensures.same c.in-Some-2.below c.wait-in-Some-2.new.waiting.items c.in_ok-wait-2.ensures x.0 x.1 c.step.ensures.asked

pub loop-place-smaller-in-Continue-branch-4 : goal.loop-place-smaller-in-Continue-branch-4
loop-place-smaller-in-Continue-branch-4 c =
    let f = shape c.args.filter.now in
    let x = true-below f c.in-Some.place c.in-Some-2.below c.loop-place.ground c.step.new.ground c.in_ok-below.field-0 c.in_ok-below.ensures.step c.in-Some-2.is in
    smaller-still f c.args.head c.args.ground.now c.loop-place.ground c.step.new.ground c.requires.ground c.loop-place.asked c.step.new.asked c.loop-place.waiting.items c.pop.new.self.items c.in-Some.place c.in-Some.ensures.items
    c.loop-place.invariant c.in-Some-2.below c.wait-in-Some-2.new.waiting.items (length c.args.ground.now.graph) c.in_ok-wait-2.ensures x.0 x.1

pub returns-in_err-wait-2-clause-walked : goal.returns-in_err-wait-2-clause-walked
returns-in_err-wait-2-clause-walked c =
    let f = shape c.args.filter.now in
    let x = true-below f c.in-Some.place c.in-Some-2.below c.loop-place.ground c.step.new.ground c.in_ok-below.field-0 c.in_ok-below.ensures.step c.in-Some-2.is in
    walked-still f c.args.head c.args.ground.now c.loop-place.ground c.step.new.ground c.requires.ground c.loop-place.asked c.step.new.asked c.loop-place.waiting.items c.pop.new.self.items c.in-Some.place c.in-Some.ensures.items
    c.loop-place.invariant c.step.ensures.same x.1

pub loop-place-smaller : goal.loop-place-smaller
loop-place-smaller c =
    let f = shape c.args.filter.now in
    smaller-more f c.args.head c.args.ground.now c.loop-place.ground c.step.new.ground c.requires.ground c.loop-place.asked c.step.new.asked c.loop-place.waiting.items c.pop.new.self.items c.in-Some.place c.in-Some.ensures.items
    c.loop-place.invariant c.step.ensures.same (true-entered f c.in-Some.place c.loop-place.ground c.step.new.ground c.in_ok-below.field-0 c.in_ok-below.ensures.step c.in_default-2.is).0

pub loop-place-preserved : goal.loop-place-preserved
loop-place-preserved c =
    let f = shape c.args.filter.now in
    making-more f c.args.head c.args.ground.now c.loop-place.ground c.step.new.ground c.requires.ground c.loop-place.asked c.step.new.asked c.loop-place.waiting.items c.pop.new.self.items c.in-Some.place c.in-Some.ensures.items
    c.loop-place.invariant c.step.ensures.same (true-entered f c.in-Some.place c.loop-place.ground c.step.new.ground c.in_ok-below.field-0 c.in_ok-below.ensures.step c.in_default-2.is) c.step.ensures.asked
