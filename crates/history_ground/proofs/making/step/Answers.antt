use Rattle.std.proofs.Common.{◌≡◌, ◌∙◌, inl, ℕ, [], Option, None, Result, Ok, Err, IfErr, OnErr, OnOk, ap, subst, sym}
use Rattle.std.specs.Result.{result_and}
use Rattle.git_objects.specs.declared.kind.Kind.TheVariants.{Commit}
use Rattle.object_store.specs.Growth.{IsOnly}
use Rattle.filter_apply.specs.Faults.{IsApplyFault}
use Rattle.filter_apply.specs.declared.fault.ApplyError.{ApplyError}
use Rattle.filter_text.specs.Filters.{Filter}
use Rattle.filter_text.specs.Shapes.{shape}
use Rattle.projection_ground.specs.Asked.{IsNone}
use Rattle.projection_ground.specs.Grounds.{IsShownOf, commits_of}
use Rattle.history_ground.specs.Making.{IsEntered, IsTurnObject}
use Rattle.history_ground.specs.TrueWalks.{IsTrueStep}
use Rattle.projection_ground.specs.TrueMaps.{AreHeld}
use Rattle.projection_ground.specs.Turns.{IsTurn}
use Rattle.projection_ground.specs.declared.ground.Ground.{Ground}
use Rattle.projection_ground.proofs.Asking.{asked-grown}
use Rattle.projection_ground.proofs.Growing.{extends-as, extends-self}
use Rattle.projection_ground.specs.declared.turning.Turn.TheVariants as turns
use Rattle.history_ground.proofs.Steps.{Turns, turn-below}
use Rattle.history_ground.proofs.TakenTurns.{entered-kept, fault-as, fits, held-kept, held-there, kept-either}
use Rattle.history_ground.proofs.TrueWalking.{put-entered, put-object, put-same}
use Rattle.history_ground.proofs.making.step.Goals as goal

-- what follows from what holds after an Ok, and after an Err
ok-so : {T E A B : Type 0} → (r : Result T E) → (A → B) → OnOk r A → OnOk r B
ok-so (Ok x) f h = f h
ok-so (Err e) f h = tt

ok-both : {T E A B C : Type 0} → (r : Result T E) → (A → B → C) → OnOk r A → OnOk r B → OnOk r C
ok-both (Ok x) f a b = f a b
ok-both (Err e) f a b = tt

err-so : {T E B : Type 0} (P : E → Type 0) → (r : Result T E) → ((e : E) → P e → B) → IfErr r P → OnErr r B
err-so P (Ok x) f h = tt
err-so P (Err e) f h = f e h

-- a step behind which nothing waits
and-step : {T : Type 0} (f : Filter) (place : ℕ) (g k : Ground) → (r : Result T ApplyError) → OnOk r (IsEntered f place g k × AreHeld k.store k.map) → OnErr r (k.map ≡ g.map) → IsTrueStep f place g k (result_and r (Ok None))
and-step f place g k (Ok x) a b = a
and-step f place g k (Err e) a b = b

and-err : {T U E : Type 0} (P Q : E → Type 0) (y : U) → (r : Result T E) → ((e : E) → P e → Q e) → IfErr r P → IfErr (result_and r (Ok y)) Q
and-err P Q y (Ok x) f h = tt
and-err P Q y (Err e) f h = f e h

pub keep_put-requires-clause-fit : goal.keep_put-requires-clause-fit
keep_put-requires-clause-fit c =
    let f = shape c.args.filter.now in
    let g = c.args.ground.now in
    let h = c.take_turn.new.ground in
    fits f g h c.args.place c.requires.ground c.take_turn.ensures.same c.take_turn.ensures.map c.requires.place (held-there g.store g.map c.requires.held) c.in-New.shown c.in-New.body.items
    (λ d e. subst (IsTurn f g h c.args.place d) c.in-New.is (c.in_ok-below.ensures.ok d e))

pub returns-in-Below-clause-step : goal.returns-in-Below-clause-step
returns-in-Below-clause-step c = (
  turn-below (shape c.args.filter.now) c.args.ground.now c.take_turn.new.ground c.args.place c.in_ok-below.field-0 c.in-Below.below c.requires.ground c.requires.place c.in_ok-below.ensures.ok c.in-Below.is,
  c.take_turn.ensures.map,
)

pub returns-in-Kept-clause-same : goal.returns-in-Kept-clause-same
returns-in-Kept-clause-same c =
    let f = shape c.args.filter.now in
    let g = c.args.ground.now in
    let h = c.take_turn.new.ground in
    let made = IsTurnObject f g c.args.place [] in
    kept-either made g h c.keep.new.ground _ c.keep.result (extends-as (IsShownOf f (commits_of g)) made g h (λ o x. inl x) c.take_turn.ensures.same) c.keep.ensures.ok c.keep.ensures.err

pub returns-in-Kept-clause-asked : goal.returns-in-Kept-clause-asked
returns-in-Kept-clause-asked c =
    let f = shape c.args.filter.now in
    let g = c.args.ground.now in
    let h = c.take_turn.new.ground in
    let made = IsTurnObject f g c.args.place [] in
    asked-grown f h c.keep.new.ground made c.take_turn.new.asked
    (kept-either made h h c.keep.new.ground _ c.keep.result (extends-self made h c.take_turn.ensures.same.ground) c.keep.ensures.ok c.keep.ensures.err) c.take_turn.ensures.asked

pub returns-in-Kept-clause-step : goal.returns-in-Kept-clause-step
returns-in-Kept-clause-step c =
    let f = shape c.args.filter.now in
    let g = c.args.ground.now in
    let h = c.take_turn.new.ground in
    let k = c.keep.new.ground in
    subst (IsTrueStep f c.args.place g k) (sym c.and.ensures)
    (and-step f c.args.place g k c.keep.result
    (ok-so c.keep.result
    (λ e.
    let t : Turns f g h c.args.place (turns.Kept c.in-Kept.shown) = λ d e. subst (IsTurn f g h c.args.place d) c.in-Kept.is (c.in_ok-below.ensures.ok d e) in
    let there = held-there g.store g.map c.requires.held in (
      entered-kept f g h c.args.place c.requires.ground c.take_turn.ensures.same c.take_turn.ensures.map c.requires.place there k c.in-Kept.shown t e,
      held-kept f g h c.args.place c.requires.ground c.take_turn.ensures.same c.take_turn.ensures.map c.requires.place there k c.in-Kept.shown t e c.requires.held,
    )) c.keep.ensures.ok)
    (err-so (λ (e : ApplyError). IsApplyFault IsNone h.store e × (k ≡ h)) c.keep.result (λ e x. ap (λ (y : Ground). y.map) x.1 ∙ c.take_turn.ensures.map) c.keep.ensures.err))

pub returns-in-Kept-clause-err : goal.returns-in-Kept-clause-err
returns-in-Kept-clause-err c =
    let f = shape c.args.filter.now in
    let g = c.args.ground.now in
    let h = c.take_turn.new.ground in
    let made = IsTurnObject f g c.args.place [] in
    let k = c.keep.new.ground in
    subst (λ (r : Result (Option ℕ) ApplyError). IfErr r (IsApplyFault made k.store)) (sym c.and.ensures)
    (and-err (λ (e : ApplyError). IsApplyFault IsNone h.store e × (k ≡ h)) (IsApplyFault made k.store) None c.keep.result
    (λ e x. fault-as IsNone made k.store (λ o y. absurd y) e (subst (λ (y : Ground). IsApplyFault IsNone y.store e) (sym x.1) x.0)) c.keep.ensures.err)

pub returns-in-New-clause-same : goal.returns-in-New-clause-same
returns-in-New-clause-same c =
    let f = shape c.args.filter.now in
    let g = c.args.ground.now in
    let h = c.take_turn.new.ground in
    put-same f g h c.args.place c.requires.ground c.take_turn.ensures.same c.take_turn.ensures.map c.requires.place c.requires.held c.in-New.shown c.in-New.body.items
    (λ d e. subst (IsTurn f g h c.args.place d) c.in-New.is (c.in_ok-below.ensures.ok d e)) c.keep_put.new.ground c.keep_put.ensures.same

pub returns-in-New-clause-asked : goal.returns-in-New-clause-asked
returns-in-New-clause-asked c =
    asked-grown (shape c.args.filter.now) c.take_turn.new.ground c.keep_put.new.ground (IsOnly Commit c.in-New.body.items) c.take_turn.new.asked c.keep_put.ensures.same c.take_turn.ensures.asked

pub returns-in-New-clause-step : goal.returns-in-New-clause-step
returns-in-New-clause-step c =
    let f = shape c.args.filter.now in
    let g = c.args.ground.now in
    let h = c.take_turn.new.ground in
    let k = c.keep_put.new.ground in
    subst (IsTrueStep f c.args.place g k) (sym c.and-in-New.ensures)
    (and-step f c.args.place g k c.keep_put.result
    (ok-both c.keep_put.result
    (put-entered f g h c.args.place c.requires.ground c.take_turn.ensures.same c.take_turn.ensures.map c.requires.place c.requires.held c.in-New.shown c.in-New.body.items
    (λ d e. subst (IsTurn f g h c.args.place d) c.in-New.is (c.in_ok-below.ensures.ok d e)) k c.keep_put.ensures.same) c.keep_put.ensures.ok c.keep_put.ensures.there)
    (err-so (λ (e : ApplyError). IsApplyFault (IsOnly Commit c.in-New.body.items) k.store e × (k.map ≡ h.map)) c.keep_put.result (λ e x. x.1 ∙ c.take_turn.ensures.map) c.keep_put.ensures.err))

pub returns-in-New-clause-err : goal.returns-in-New-clause-err
returns-in-New-clause-err c =
    let f = shape c.args.filter.now in
    let g = c.args.ground.now in
    let h = c.take_turn.new.ground in
    let made = IsTurnObject f g c.args.place [] in
    let k = c.keep_put.new.ground in
    subst (λ (r : Result (Option ℕ) ApplyError). IfErr r (IsApplyFault made k.store)) (sym c.and-in-New.ensures)
    (and-err (λ (e : ApplyError). IsApplyFault (IsOnly Commit c.in-New.body.items) k.store e × (k.map ≡ h.map)) (IsApplyFault made k.store) None c.keep_put.result
    (λ e x. fault-as (IsOnly Commit c.in-New.body.items) made k.store
    (put-object f g h c.args.place c.requires.ground c.take_turn.ensures.same c.take_turn.ensures.map c.requires.place c.requires.held c.in-New.shown c.in-New.body.items
    (λ d e. subst (IsTurn f g h c.args.place d) c.in-New.is (c.in_ok-below.ensures.ok d e))) e x.0) c.keep_put.ensures.err)
