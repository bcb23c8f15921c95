use Rattle.std.proofs.Common.{◌≡◌, [], sym, subst}
use Rattle.git_objects.specs.Names.{name}
use Rattle.git_objects.specs.Paths.{Bytes}
use Rattle.git_objects.specs.declared.kind.Kind.TheVariants.{Tree}
use Rattle.object_store.specs.Unfolding.{flat, StandsFor}
use Rattle.object_store.proofs.Growth.{grown_self}
use Rattle.path_trees.specs.Levels.{IsDirectory}
use Rattle.filter_text.specs.Shapes.{shape}
use Rattle.filter_routes.specs.Lenses.{seen_through}
use Rattle.filter_routes.specs.Origins.{lens_of}
use Rattle.filter_apply.specs.Faults.{IsApplyFault, fault_of}
use Rattle.filter_apply.specs.Hands.{IsShownObject}
use Rattle.filter_apply.proofs.Handing.{err_told}
use Rattle.filter_apply.proofs.Shows.{empty_fits, empty_taken, empty_refused}
use Rattle.filter_apply.proofs.Truths.{true_grown}
use Rattle.filter_apply.proofs.showing.made.Goals as goal

pub returns-in-Some-clause-ok : goal.returns-in-Some-clause-ok
returns-in-Some-clause-ok g c =
    let S = c.args.store.now in
    let S1 = c.shown_by_all.new.store in
    let t = flat S c.args.root.0 in
    let f = shape c.args.table.now.filter in
    subst (IsDirectory S1 (seen_through (lens_of f) t)) c.in-Some.is c.in_ok-name.ensures.ok

pub taken_in-requires : goal.taken_in-requires
taken_in-requires g c = empty_fits c.shown_by_all.new.store

pub returns-in_err-taken_in-in-None-clause-err : goal.returns-in_err-taken_in-in-None-clause-err
returns-in_err-taken_in-in-None-clause-err g c =
    let S = c.args.store.now in
    let S1 = c.shown_by_all.new.store in
    let t = flat S c.args.root.0 in
    let f = shape c.args.table.now.filter in
    err_told (IsApplyFault (IsShownObject f t) c.taken_in.new.store) c.from_residual-in_err-taken_in-in-None.result (fault_of c.in_err-taken_in-in-None.field-0.0) c.from_residual-in_err-taken_in-in-None.ensures.1
    (empty_refused f t S S1 c.in_ok-name.ensures.store c.taken_in.new.store c.in_err-taken_in-in-None.field-0.0 c.in_err-taken_in-in-None.ensures.err.0 c.in_err-taken_in-in-None.ensures.err.1)

pub returns-in_ok-taken_in-in-None-clause-ok : goal.returns-in_ok-taken_in-in-None-clause-ok
returns-in_ok-taken_in-in-None-clause-ok g c =
    let S = c.args.store.now in
    let S1 = c.shown_by_all.new.store in
    let t = flat S c.args.root.0 in
    let f = shape c.args.table.now.filter in
    let none : seen_through (lens_of f) t ≡ [] = subst (IsDirectory S1 (seen_through (lens_of f) t)) c.in-None.is c.in_ok-name.ensures.ok in
    let taken = (empty_taken f t S S1 c.in_ok-name.ensures.store c.taken_in.new.store c.taken_in.ensures.store c.in_ok-taken_in-in-None.ensures.ok.1).0 in
    subst (λ (n : Bytes). StandsFor c.taken_in.new.store n (seen_through (lens_of f) t)) (sym c.in_ok-taken_in-in-None.ensures.ok.0)
    (subst (StandsFor c.taken_in.new.store (name Tree [])) (sym none) taken)

pub returns-in_ok-taken_in-in-None-clause-store : goal.returns-in_ok-taken_in-in-None-clause-store
returns-in_ok-taken_in-in-None-clause-store g c =
    let S = c.args.store.now in
    let S1 = c.shown_by_all.new.store in
    let t = flat S c.args.root.0 in
    let f = shape c.args.table.now.filter in
    (empty_taken f t S S1 c.in_ok-name.ensures.store c.taken_in.new.store c.taken_in.ensures.store c.in_ok-taken_in-in-None.ensures.ok.1).1

pub returns-in_ok-taken_in-in-None-clause-true_now : goal.returns-in_ok-taken_in-in-None-clause-true_now
returns-in_ok-taken_in-in-None-clause-true_now g c =
    let S1 = c.shown_by_all.new.store in
    let S2 = c.taken_in.new.store in
    let t = flat c.args.store.now c.args.root.0 in
    let f = shape c.args.table.now.filter in
    let same = grown_self (IsShownObject f t) S1 c.in_ok-name.ensures.store.store in
    let grown = (empty_taken f t S1 S1 same S2 c.taken_in.ensures.store c.in_ok-taken_in-in-None.ensures.ok.1).1 in
    true_grown c.args.table.now c.args.id S1 S2 c.shown_by_all.new.memo grown c.in_ok-name.ensures.true_now
