use Rattle.std.proofs.Common.{◌≡◌, ◌∙◌, true, slice_get, IfSome, Option, sym, ap, subst}
use Rattle.std.specs.Option.{option_map}
use Rattle.git_objects.specs.Trees.{rests}
use Rattle.object_store.specs.Objects.{has_child}
use Rattle.object_store.specs.Unfolding.{flat}
use Rattle.object_store.proofs.Unfolding.{flat_good}
use Rattle.object_store.proofs.Growth.{grown_as, grown_then}
use Rattle.path_trees.specs.Standing.{node}
use Rattle.path_trees.specs.declared.found.Found.{Found}
use Rattle.filter_text.specs.Shapes.{shape}
use Rattle.filter_apply.specs.Faults.{IsApplyFault}
use Rattle.filter_apply.specs.Hands.{IsPartObject, IsPlacedObject, IsShownObject}
use Rattle.filter_apply.specs.Parts.{base_in, part_in, rests_of}
use Rattle.filter_apply.proofs.Handing.{err_told, fault_as}
use Rattle.filter_apply.proofs.Shows.{found_shown, kind, none_routed, placed_routed, placed_shown}
use Rattle.filter_apply.proofs.routes.made_at.Goals as goal

pub returns-in_err-part_in-clause-err : goal.returns-in_err-part_in-clause-err
returns-in_err-part_in-clause-err g c =
    let S0 = c.args.store.now in
    let t = flat S0 c.args.root.0 in
    let f = shape c.args.table.now.filter in
    let es = c.args.table.now.routes in
    let tree = (flat_good S0 c.store_law.ensures.store c.args.root.0 c.requires.root).tree in
    let n = node S0 c.args.base in
    let S1 = c.part_in.new.store in
    err_told (IsApplyFault (IsShownObject f t) S1) c.from_residual.result c.in_err-part_in.field-0.0 c.from_residual.ensures.1
    (fault_as (IsPartObject (rests n)) (IsShownObject f t) S1 c.in_err-part_in.field-0.0 (found_shown f t (base_in (slice_get es c.args.route)) tree n c.requires.base.stands) c.in_err-part_in.ensures.err)

pub returns-in_err-part_in-clause-store : goal.returns-in_err-part_in-clause-store
returns-in_err-part_in-clause-store g c =
    let S0 = c.args.store.now in
    let t = flat S0 c.args.root.0 in
    let f = shape c.args.table.now.filter in
    let es = c.args.table.now.routes in
    let tree = (flat_good S0 c.store_law.ensures.store c.args.root.0 c.requires.root).tree in
    let n = node S0 c.args.base in
    let S1 = c.part_in.new.store in
    grown_as (IsPartObject (rests n)) (IsShownObject f t) S0 S1 (found_shown f t (base_in (slice_get es c.args.route)) tree n c.requires.base.stands) c.in_err-part_in.ensures.store

pub placed-requires-clause-tree : goal.placed-requires-clause-tree
placed-requires-clause-tree g c =
    let S0 = c.args.store.now in
    let t = flat S0 c.args.root.0 in
    let f = shape c.args.table.now.filter in
    let es = c.args.table.now.routes in
    let tree = (flat_good S0 c.store_law.ensures.store c.args.root.0 c.requires.root).tree in
    let n = node S0 c.args.base in
    let S1 = c.part_in.new.store in
    let part = c.in-Some.part in
    let map : rests (node S1 part) ≡ part_in es c.args.route (rests n) =
    ap (λ (o : Option Found). rests_of (option_map (node S1) o)) (sym c.in-Some.is) ∙ c.in_ok-part_in.ensures.ok ∙ (λ i. part_in (c.entries.ensures.entries i) c.args.route (rests n)) in
    let held = subst (λ (o : Option Found). IfSome o (λ d. has_child S1 d.mode d.name.0 ≡ true)) c.in-Some.is c.in_ok-part_in.ensures.held in
    kind f es c.entries.ensures.list c.entries.ensures.sound c.entries.ensures.paths t tree c.args.route c.args.target.now c.requires.target n c.requires.base.stands
    S1 c.in_ok-part_in.ensures.store.store part held map

pub returns-in_err-placed-in-Some-clause-err : goal.returns-in_err-placed-in-Some-clause-err
returns-in_err-placed-in-Some-clause-err g c =
    let S0 = c.args.store.now in
    let t = flat S0 c.args.root.0 in
    let f = shape c.args.table.now.filter in
    let es = c.args.table.now.routes in
    let tree = (flat_good S0 c.store_law.ensures.store c.args.root.0 c.requires.root).tree in
    let n = node S0 c.args.base in
    let S1 = c.part_in.new.store in
    let S2 = c.placed.new.store in
    let part = c.in-Some.part in
    let map : rests (node S1 part) ≡ part_in es c.args.route (rests n) =
    ap (λ (o : Option Found). rests_of (option_map (node S1) o)) (sym c.in-Some.is) ∙ c.in_ok-part_in.ensures.ok ∙ (λ i. part_in (c.entries.ensures.entries i) c.args.route (rests n)) in
    let held = subst (λ (o : Option Found). IfSome o (λ d. has_child S1 d.mode d.name.0 ≡ true)) c.in-Some.is c.in_ok-part_in.ensures.held in
    err_told (IsApplyFault (IsShownObject f t) S2) c.from_residual-in_err-placed-in-Some.result c.in_err-placed-in-Some.field-0.0 c.from_residual-in_err-placed-in-Some.ensures.1
    (fault_as (IsPlacedObject c.args.target.now (rests (node S1 part))) (IsShownObject f t) S2 c.in_err-placed-in-Some.field-0.0
    (placed_shown f es c.entries.ensures.list c.entries.ensures.sound c.entries.ensures.paths t tree c.args.route c.args.target.now c.requires.target n c.requires.base.stands
    S1 c.in_ok-part_in.ensures.store.store part held map) c.in_err-placed-in-Some.ensures.err)

pub returns-in_err-placed-in-Some-clause-store : goal.returns-in_err-placed-in-Some-clause-store
returns-in_err-placed-in-Some-clause-store g c =
    let S0 = c.args.store.now in
    let t = flat S0 c.args.root.0 in
    let f = shape c.args.table.now.filter in
    let es = c.args.table.now.routes in
    let tree = (flat_good S0 c.store_law.ensures.store c.args.root.0 c.requires.root).tree in
    let n = node S0 c.args.base in
    let S1 = c.part_in.new.store in
    let S2 = c.placed.new.store in
    let part = c.in-Some.part in
    let map : rests (node S1 part) ≡ part_in es c.args.route (rests n) =
    ap (λ (o : Option Found). rests_of (option_map (node S1) o)) (sym c.in-Some.is) ∙ c.in_ok-part_in.ensures.ok ∙ (λ i. part_in (c.entries.ensures.entries i) c.args.route (rests n)) in
    let held = subst (λ (o : Option Found). IfSome o (λ d. has_child S1 d.mode d.name.0 ≡ true)) c.in-Some.is c.in_ok-part_in.ensures.held in
    grown_then (IsShownObject f t) S0 S1 S2 (grown_as (IsPartObject (rests n)) (IsShownObject f t) S0 S1 (found_shown f t (base_in (slice_get es c.args.route)) tree n c.requires.base.stands) c.in_ok-part_in.ensures.store)
    (grown_as (IsPlacedObject c.args.target.now (rests (node S1 part))) (IsShownObject f t) S1 S2
    (placed_shown f es c.entries.ensures.list c.entries.ensures.sound c.entries.ensures.paths t tree c.args.route c.args.target.now c.requires.target n c.requires.base.stands
    S1 c.in_ok-part_in.ensures.store.store part held map) c.in_err-placed-in-Some.ensures.store)

pub returns-in-None-clause-ok : goal.returns-in-None-clause-ok
returns-in-None-clause-ok g c =
    let S0 = c.args.store.now in
    let t = flat S0 c.args.root.0 in
    let f = shape c.args.table.now.filter in
    let es = c.args.table.now.routes in
    let tree = (flat_good S0 c.store_law.ensures.store c.args.root.0 c.requires.root).tree in
    let n = node S0 c.args.base in
    let S1 = c.part_in.new.store in
    none_routed f es c.entries.ensures.list c.entries.ensures.sound c.entries.ensures.paths t tree c.args.route c.args.target.now c.requires.target n c.requires.base.stands
    (ap (λ (o : Option Found). rests_of (option_map (node S1) o)) (sym c.in-None.is) ∙ c.in_ok-part_in.ensures.ok ∙ (λ i. part_in (c.entries.ensures.entries i) c.args.route (rests n)))

pub returns-in-None-clause-store : goal.returns-in-None-clause-store
returns-in-None-clause-store g c =
    let S0 = c.args.store.now in
    let t = flat S0 c.args.root.0 in
    let f = shape c.args.table.now.filter in
    let es = c.args.table.now.routes in
    let tree = (flat_good S0 c.store_law.ensures.store c.args.root.0 c.requires.root).tree in
    let n = node S0 c.args.base in
    let S1 = c.part_in.new.store in
    grown_as (IsPartObject (rests n)) (IsShownObject f t) S0 S1 (found_shown f t (base_in (slice_get es c.args.route)) tree n c.requires.base.stands) c.in_ok-part_in.ensures.store

pub returns-in_ok-placed-in-Some-clause-ok : goal.returns-in_ok-placed-in-Some-clause-ok
returns-in_ok-placed-in-Some-clause-ok g c =
    let S0 = c.args.store.now in
    let t = flat S0 c.args.root.0 in
    let f = shape c.args.table.now.filter in
    let es = c.args.table.now.routes in
    let tree = (flat_good S0 c.store_law.ensures.store c.args.root.0 c.requires.root).tree in
    let n = node S0 c.args.base in
    let S1 = c.part_in.new.store in
    let S2 = c.placed.new.store in
    let part = c.in-Some.part in
    let map : rests (node S1 part) ≡ part_in es c.args.route (rests n) =
    ap (λ (o : Option Found). rests_of (option_map (node S1) o)) (sym c.in-Some.is) ∙ c.in_ok-part_in.ensures.ok ∙ (λ i. part_in (c.entries.ensures.entries i) c.args.route (rests n)) in
    let held = subst (λ (o : Option Found). IfSome o (λ d. has_child S1 d.mode d.name.0 ≡ true)) c.in-Some.is c.in_ok-part_in.ensures.held in
    placed_routed f es c.entries.ensures.list c.entries.ensures.sound c.entries.ensures.paths t tree c.args.route c.args.target.now c.requires.target n c.requires.base.stands
    S1 c.in_ok-part_in.ensures.store.store part held map S2 c.in_ok-placed-in-Some.field-0 c.in_ok-placed-in-Some.ensures.ok

pub returns-in_ok-placed-in-Some-clause-store : goal.returns-in_ok-placed-in-Some-clause-store
returns-in_ok-placed-in-Some-clause-store g c =
    let S0 = c.args.store.now in
    let t = flat S0 c.args.root.0 in
    let f = shape c.args.table.now.filter in
    let es = c.args.table.now.routes in
    let tree = (flat_good S0 c.store_law.ensures.store c.args.root.0 c.requires.root).tree in
    let n = node S0 c.args.base in
    let S1 = c.part_in.new.store in
    let S2 = c.placed.new.store in
    let part = c.in-Some.part in
    let map : rests (node S1 part) ≡ part_in es c.args.route (rests n) =
    ap (λ (o : Option Found). rests_of (option_map (node S1) o)) (sym c.in-Some.is) ∙ c.in_ok-part_in.ensures.ok ∙ (λ i. part_in (c.entries.ensures.entries i) c.args.route (rests n)) in
    let held = subst (λ (o : Option Found). IfSome o (λ d. has_child S1 d.mode d.name.0 ≡ true)) c.in-Some.is c.in_ok-part_in.ensures.held in
    grown_then (IsShownObject f t) S0 S1 S2 (grown_as (IsPartObject (rests n)) (IsShownObject f t) S0 S1 (found_shown f t (base_in (slice_get es c.args.route)) tree n c.requires.base.stands) c.in_ok-part_in.ensures.store)
    (grown_as (IsPlacedObject c.args.target.now (rests (node S1 part))) (IsShownObject f t) S1 S2
    (placed_shown f es c.entries.ensures.list c.entries.ensures.sound c.entries.ensures.paths t tree c.args.route c.args.target.now c.requires.target n c.requires.base.stands
    S1 c.in_ok-part_in.ensures.store.store part held map) c.in_ok-placed-in-Some.ensures.store)
