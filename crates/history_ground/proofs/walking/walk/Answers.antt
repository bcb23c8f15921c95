use Rattle.std.proofs.Common.{◌++◌, ◌∷◌, length, List, ℕ, [], sym, subst, ap, ◌∙◌}
use Rattle.std.proofs.lemmas.Result.{err_from_is_err_and}
use Rattle.filter_text.specs.Shapes.{shape}
use Rattle.filter_apply.specs.Faults.{IsApplyFault}
use Rattle.projection_ground.specs.Grounds.{IsShownOf, commits_of}
use Rattle.projection_ground.proofs.TurnLemmas.{handed-on}
use Rattle.history_ground.proofs.WalkLemmas.{IsWalking, smaller-below, smaller-settled, step-below, step-settled, walked-below, walking-below, walking-settled, walking-start, fault-same}
use Rattle.history_ground.proofs.walking.walk.Goals as goal

pub loop-place-init : goal.loop-place-init
loop-place-init g c =
    let old = c.args.ground.now in
    subst (IsWalking (shape c.args.filter.now) c.args.head old old c.args.steps.now c.args.steps.now c.args.asked.now)
    (sym (c.in_ok-wait.ensures ∙ ap (λ (xs : List ℕ). xs ++ c.args.head ∷ []) c.new-waiting.ensures.items))
    (walking-start (shape c.args.filter.now) c.args.head old c.args.steps.now c.args.asked.now c.requires.ground c.requires.place c.requires.lacked c.requires.asked)

pub returns-in_err-below-clause-walked : goal.returns-in_err-below-clause-walked
returns-in_err-below-clause-walked g c =
    walked-below (shape c.args.filter.now) c.args.head c.args.ground.now c.loop-place.ground c.step.new.ground c.requires.ground c.args.steps.now c.loop-place.steps c.step.new.steps c.loop-place.asked c.step.new.asked c.loop-place.waiting.items c.pop.new.self.items c.in-Some.place
    c.in-Some.ensures.items c.loop-place.invariant c.step.ensures.same c.step.ensures.asked c.in_err-below.ensures.step

pub returns-in_err-below-clause-err : goal.returns-in_err-below-clause-err
returns-in_err-below-clause-err g c =
    let f = shape c.args.filter.now in
    let p = err_from_is_err_and c.from_residual-in_err-below.result c.from_residual-in_err-below.ensures.1 in
    handed-on (IsApplyFault (IsShownOf f (commits_of c.args.ground.now)) c.step.new.ground.store) c.from_residual-in_err-below.result p.0 c.in_err-below.field-0.0 p.1 p.2
    (fault-same f c.args.ground.now c.loop-place.ground c.step.new.ground c.requires.ground c.loop-place.invariant.walked.same c.in_err-below.field-0.0 c.in_err-below.ensures.err)

pub loop-place-preserved-in-Continue-branch-4 : goal.loop-place-preserved-in-Continue-branch-4
loop-place-preserved-in-Continue-branch-4 g c =
    let x = step-below (shape c.args.filter.now) c.in-Some.place c.in-Some-2.below c.loop-place.ground c.step.new.ground c.loop-place.steps c.step.new.steps c.in_ok-below.field-0 c.in_ok-below.ensures.step c.in-Some-2.is in
    walking-below (shape c.args.filter.now) c.args.head c.args.ground.now c.loop-place.ground c.step.new.ground c.requires.ground c.args.steps.now c.loop-place.steps c.step.new.steps c.loop-place.asked c.step.new.asked c.loop-place.waiting.items c.pop.new.self.items c.in-Some.place
    c.in-Some.ensures.items c.loop-place.invariant c.step.ensures.same c.step.ensures.asked c.in-Some-2.below c.wait-in-Some-2.new.waiting.items c.in_ok-wait-2.ensures x.0 x.1

pub loop-place-smaller-in-Continue-branch-4 : goal.loop-place-smaller-in-Continue-branch-4
loop-place-smaller-in-Continue-branch-4 g c =
    let x = step-below (shape c.args.filter.now) c.in-Some.place c.in-Some-2.below c.loop-place.ground c.step.new.ground c.loop-place.steps c.step.new.steps c.in_ok-below.field-0 c.in_ok-below.ensures.step c.in-Some-2.is in
    smaller-below (shape c.args.filter.now) c.args.head c.args.ground.now c.loop-place.ground c.step.new.ground c.requires.ground c.args.steps.now c.loop-place.steps c.step.new.steps c.loop-place.asked c.step.new.asked c.loop-place.waiting.items c.pop.new.self.items c.in-Some.place
    c.in-Some.ensures.items c.loop-place.invariant c.step.ensures.same c.step.ensures.asked c.in-Some-2.below c.wait-in-Some-2.new.waiting.items (length c.args.ground.now.graph) c.in_ok-wait-2.ensures x.0 x.1

pub returns-in_err-wait-2-clause-walked : goal.returns-in_err-wait-2-clause-walked
returns-in_err-wait-2-clause-walked g c =
    let x = step-below (shape c.args.filter.now) c.in-Some.place c.in-Some-2.below c.loop-place.ground c.step.new.ground c.loop-place.steps c.step.new.steps c.in_ok-below.field-0 c.in_ok-below.ensures.step c.in-Some-2.is in
    walked-below (shape c.args.filter.now) c.args.head c.args.ground.now c.loop-place.ground c.step.new.ground c.requires.ground c.args.steps.now c.loop-place.steps c.step.new.steps c.loop-place.asked c.step.new.asked c.loop-place.waiting.items c.pop.new.self.items c.in-Some.place
    c.in-Some.ensures.items c.loop-place.invariant c.step.ensures.same c.step.ensures.asked x.1

pub loop-place-smaller : goal.loop-place-smaller
loop-place-smaller g c =
    let x = step-settled (shape c.args.filter.now) c.in-Some.place c.loop-place.ground c.step.new.ground c.loop-place.steps c.step.new.steps c.in_ok-below.field-0 c.in_ok-below.ensures.step c.in_default-2.is in
    smaller-settled (shape c.args.filter.now) c.args.head c.args.ground.now c.loop-place.ground c.step.new.ground c.requires.ground c.args.steps.now c.loop-place.steps c.step.new.steps c.loop-place.asked c.step.new.asked c.loop-place.waiting.items c.pop.new.self.items c.in-Some.place
    c.in-Some.ensures.items c.loop-place.invariant c.step.ensures.same c.step.ensures.asked x

pub loop-place-preserved : goal.loop-place-preserved
loop-place-preserved g c =
    let x = step-settled (shape c.args.filter.now) c.in-Some.place c.loop-place.ground c.step.new.ground c.loop-place.steps c.step.new.steps c.in_ok-below.field-0 c.in_ok-below.ensures.step c.in_default-2.is in
    walking-settled (shape c.args.filter.now) c.args.head c.args.ground.now c.loop-place.ground c.step.new.ground c.requires.ground c.args.steps.now c.loop-place.steps c.step.new.steps c.loop-place.asked c.step.new.asked c.loop-place.waiting.items c.pop.new.self.items c.in-Some.place
    c.in-Some.ensures.items c.loop-place.invariant c.step.ensures.same c.step.ensures.asked x
