use Rattle.std.proofs.Common.{◌≡◌, sym, subst, ap, ◌∙◌, true, Option, IfSome, Result, Ok, Err}
use Rattle.std.proofs.lemmas.Result.{err_from_is_err_and}
use Rattle.git_objects.specs.declared.kind.Kind.TheVariants.{Tree}
use Rattle.git_objects.specs.declared.name.Name.{Name}
use Rattle.object_store.specs.Objects.{has}
use Rattle.object_store.specs.Unfolding.{flat, StandsFor}
use Rattle.object_store.proofs.Growth.{has-grown}
use Rattle.filter_text.specs.Shapes.{shape}
use Rattle.filter_apply.specs.Hands.{IsShownObject}
use Rattle.filter_apply.specs.declared.fault.ApplyError.{ApplyError}
use Rattle.workspace.specs.Workspaces.{resolve, shown}
use Rattle.projection_ground.specs.Asked.{IsShownBy}
use Rattle.projection_ground.proofs.Growing.{has-within}
use Rattle.projection_ground.proofs.Asking.{asked-again, asked-grown, asked-now, shown-behind, shown-failed}
use Rattle.projection_ground.proofs.seeing.seen.Goals as goal

pub returns-then-eq-clause-shown : goal.returns-then-eq-clause-shown
returns-then-eq-clause-shown c =
    let g = c.args.ground.now in
    let f = shape c.args.filter.now in
    asked-again f g c.args.root c.in-Some.tree c.in-Some.shown c.requires.ground (sym c.if-eq.ensures)
    (subst (λ (o : Option (Name × Name)). IfSome o (λ p. (has Tree g.store p.0.0 ≡ true) × StandsFor g.store p.1.0 (shown f (flat g.store p.0.0)))) c.in-Some.is c.requires.asked.last)

pub returns-in_err-number-clause-shown : goal.returns-in_err-number-clause-shown
returns-in_err-number-clause-shown c =
    let p = err_from_is_err_and c.from_residual.result c.from_residual.ensures.1 in
    shown-failed (resolve (shape c.args.filter.now) (flat c.args.ground.now.store c.args.root.0)) c.args.root.0 c.args.ground.now c.number_for.new.ground c.from_residual.result c.requires.ground c.number_for.ensures.same c.number_for.ensures.map (p.1 ∙ ap Err p.2)

pub shown_by-requires-clause-root : goal.shown_by-requires-clause-root
shown_by-requires-clause-root c = has-grown c.args.ground.now.store c.number_for.new.ground.store Tree c.args.root.0 c.number_for.ensures.same.store c.requires.root

pub shown_by-requires-clause-number : goal.shown_by-requires-clause-number
shown_by-requires-clause-number c = has-within c.number_for.new.ground.tables _ c.in_ok-number.number c.in_ok-number.ensures.number

pub returns-in_err-shown-clause-shown : goal.returns-in_err-shown-clause-shown
returns-in_err-shown-clause-shown c =
    let f = resolve (shape c.args.filter.now) (flat c.args.ground.now.store c.args.root.0) in
    let p = err_from_is_err_and c.from_residual-in_err-shown.result c.from_residual-in_err-shown.ensures.1 in
    subst (λ (r : Result Name ApplyError). IsShownBy f c.args.root.0 c.args.ground.now c.shown_by.new.ground r) (c.in_err-shown.was ∙ sym (p.1 ∙ ap Err p.2))
    (shown-behind f c.args.root.0 c.args.ground.now c.number_for.new.ground c.shown_by.new.ground c.shown_by.result c.requires.root c.number_for.ensures.same c.number_for.ensures.map (c.shown_by.ensures f c.in_ok-number.ensures.number))

pub returns-in_err-shown-clause-asked : goal.returns-in_err-shown-clause-asked
returns-in_err-shown-clause-asked c =
    let f = resolve (shape c.args.filter.now) (flat c.args.ground.now.store c.args.root.0) in
    asked-grown (shape c.args.filter.now) c.number_for.new.ground c.shown_by.new.ground (IsShownObject f (flat c.number_for.new.ground.store c.args.root.0)) c.number_for.new.asked (c.shown_by.ensures f c.in_ok-number.ensures.number).same
    c.number_for.ensures.asked

pub returns-clause-shown : goal.returns-clause-shown
returns-clause-shown c =
    let f = resolve (shape c.args.filter.now) (flat c.args.ground.now.store c.args.root.0) in
    shown-behind f c.args.root.0 c.args.ground.now c.number_for.new.ground c.shown_by.new.ground (Ok c.in_ok-shown.shown) c.requires.root c.number_for.ensures.same c.number_for.ensures.map (c.in_ok-shown.ensures f c.in_ok-number.ensures.number)

pub returns-clause-asked : goal.returns-clause-asked
returns-clause-asked c =
    let f = resolve (shape c.args.filter.now) (flat c.args.ground.now.store c.args.root.0) in
    let w = shown-behind f c.args.root.0 c.args.ground.now c.number_for.new.ground c.shown_by.new.ground (Ok c.in_ok-shown.shown) c.requires.root c.number_for.ensures.same c.number_for.ensures.map (c.in_ok-shown.ensures f c.in_ok-number.ensures.number) in
    asked-now (shape c.args.filter.now) c.args.ground.now c.shown_by.new.ground (IsShownObject f (flat c.args.ground.now.store c.args.root.0)) c.number_for.new.asked c.args.root c.in_ok-shown.shown c.requires.root w.same
    (asked-grown (shape c.args.filter.now) c.number_for.new.ground c.shown_by.new.ground (IsShownObject f (flat c.number_for.new.ground.store c.args.root.0)) c.number_for.new.asked (c.in_ok-shown.ensures f c.in_ok-number.ensures.number).same
    c.number_for.ensures.asked)
    w.ok
