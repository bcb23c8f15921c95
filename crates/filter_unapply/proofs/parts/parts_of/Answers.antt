use Rattle.std.proofs.Common.{◌≡◌, [], subst}
use Rattle.git_objects.specs.Trees.{Flat}
use Rattle.git_objects.specs.declared.kind.Kind.TheVariants.{Tree}
use Rattle.object_store.specs.Objects.{Object}
use Rattle.object_store.specs.Unfolding.{flat}
use Rattle.object_store.proofs.Growth.{flat-grown, grown_as, grown_then, has-grown, stands-grown}
use Rattle.decision_lists.specs.Backward.{route_cells}
use Rattle.decision_lists.specs.Cells.{cells}
use Rattle.filter_unapply.specs.StoredLeaves.{HasLeaves}
use Rattle.filter_unapply.specs.Hands.{IsMadeOf}
use Rattle.filter_unapply.specs.Routed.{IsTakenOrIn, taken}
use Rattle.filter_unapply.proofs.MadeTrees.{err-again, known-as}
use Rattle.filter_unapply.proofs.PartLists.{parts-added, taken-whole}
use Rattle.filter_unapply.proofs.parts.parts_of.Goals as goal

pub part_of_route-requires-clause-pushed : goal.part_of_route-requires-clause-pushed
part_of_route-requires-clause-pushed c = has-grown c.args.store.now c.loop-route.store Tree c.args.pushed.0 c.loop-route.invariant.grown c.requires.pushed

pub part_of_route-requires-clause-none : goal.part_of_route-requires-clause-none
part_of_route-requires-clause-none c = stands-grown c.args.store.now c.loop-route.store c.args.none.0 [] c.loop-route.invariant.grown c.requires.none

pub returns-in_err-part-clause-err : goal.returns-in_err-part-clause-err
returns-in_err-part-clause-err c =
    let S = c.args.store.now in
    let R = c.loop-route.store in
    let n = flat S c.args.pushed.0 in
    let es = c.args.entries.now in
    let i = c.loop-route.route in
    let g = c.loop-route.invariant.grown in
    let same : flat R c.args.pushed.0 ≡ n = flat-grown S R c.args.pushed.0 g c.requires.pushed in
    let known = IsTakenOrIn (cells [] es) n in
    let part = IsTakenOrIn (route_cells es i) (flat R c.args.pushed.0) in
    let more : (o : Object) → IsMadeOf part o → IsMadeOf known o =
    known-as part known (λ p x e. taken-whole es i n c.loop-route-test.true p x (subst (λ (v : Flat). IsTakenOrIn (route_cells es i) v p x) same e)) in
    err-again (IsMadeOf part) (IsMadeOf known) more c.part_of_route.new.store c.from_residual.result c.in_err-part.field-0.0 c.from_residual.ensures.1 c.in_err-part.ensures.err

pub returns-in_err-part-clause-store : goal.returns-in_err-part-clause-store
returns-in_err-part-clause-store c =
    let S = c.args.store.now in
    let R = c.loop-route.store in
    let n = flat S c.args.pushed.0 in
    let es = c.args.entries.now in
    let i = c.loop-route.route in
    let g = c.loop-route.invariant.grown in
    let same : flat R c.args.pushed.0 ≡ n = flat-grown S R c.args.pushed.0 g c.requires.pushed in
    let known = IsTakenOrIn (cells [] es) n in
    let part = IsTakenOrIn (route_cells es i) (flat R c.args.pushed.0) in
    let more : (o : Object) → IsMadeOf part o → IsMadeOf known o =
    known-as part known (λ p x e. taken-whole es i n c.loop-route-test.true p x (subst (λ (v : Flat). IsTakenOrIn (route_cells es i) v p x) same e)) in
    grown_then (IsMadeOf known) S R c.part_of_route.new.store g (grown_as (IsMadeOf part) (IsMadeOf known) R c.part_of_route.new.store more c.part_of_route.ensures.store)

pub returns-in_err-add-clause-store : goal.returns-in_err-add-clause-store
returns-in_err-add-clause-store c =
    let S = c.args.store.now in
    let R = c.loop-route.store in
    let n = flat S c.args.pushed.0 in
    let es = c.args.entries.now in
    let i = c.loop-route.route in
    let g = c.loop-route.invariant.grown in
    let same : flat R c.args.pushed.0 ≡ n = flat-grown S R c.args.pushed.0 g c.requires.pushed in
    let known = IsTakenOrIn (cells [] es) n in
    let part = IsTakenOrIn (route_cells es i) (flat R c.args.pushed.0) in
    let more : (o : Object) → IsMadeOf part o → IsMadeOf known o =
    known-as part known (λ p x e. taken-whole es i n c.loop-route-test.true p x (subst (λ (v : Flat). IsTakenOrIn (route_cells es i) v p x) same e)) in
    grown_then (IsMadeOf known) S R c.part_of_route.new.store g (grown_as (IsMadeOf part) (IsMadeOf known) R c.part_of_route.new.store more c.part_of_route.ensures.store)

pub loop-route-preserved : goal.loop-route-preserved
loop-route-preserved c =
    let S = c.args.store.now in
    let R = c.loop-route.store in
    let n = flat S c.args.pushed.0 in
    let es = c.args.entries.now in
    let i = c.loop-route.route in
    let g = c.loop-route.invariant.grown in
    let same : flat R c.args.pushed.0 ≡ n = flat-grown S R c.args.pushed.0 g c.requires.pushed in
    let known = IsTakenOrIn (cells [] es) n in
    let part = IsTakenOrIn (route_cells es i) (flat R c.args.pushed.0) in
    let more : (o : Object) → IsMadeOf part o → IsMadeOf known o =
    known-as part known (λ p x e. taken-whole es i n c.loop-route-test.true p x (subst (λ (v : Flat). IsTakenOrIn (route_cells es i) v p x) same e)) in
    let T = c.part_of_route.new.store in
    record {
      parts = parts-added R T c.part_of_route.ensures.store es i c.loop-route-test.true n c.loop-route.parts.items c.in_ok-part.part c.args.none
          (stands-grown S T c.args.none.0 [] (grown_then (IsMadeOf known) S R T g (grown_as (IsMadeOf part) (IsMadeOf known) R T more c.part_of_route.ensures.store)) c.requires.none)
          c.loop-route.invariant.parts (subst (λ (v : Flat). HasLeaves T c.in_ok-part.part.0 (taken (route_cells es i) v)) same c.in_ok-part.ensures.ok)
          c.add.new.parts.items c.in_ok-add.ensures;
      grown = grown_then (IsMadeOf known) S R c.part_of_route.new.store g (grown_as (IsMadeOf part) (IsMadeOf known) R c.part_of_route.new.store more c.part_of_route.ensures.store);
    }
