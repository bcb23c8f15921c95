use Rattle.std.proofs.Common.{ap, sym, refl, ◌∙◌, arith}
use Rattle.std.specs.Option.{option_map}
use Rattle.object_store.specs.Unfolding.{flat}
use Rattle.object_store.proofs.Unfolding.{flat_good}
use Rattle.path_trees.specs.Standing.{node}
use Rattle.path_trees.proofs.Lookups.{read_at}
use Rattle.filter_apply.proofs.Places.{from_nothing, from_root, way_off, way_on, arrived}
use Rattle.filter_apply.proofs.standing.found_at.Goals as goal

pub returns-in_err-found-clause-found : goal.returns-in_err-found-clause-found
returns-in_err-found-clause-found g c =
    let S = c.args.store.now in
    ap (option_map (node S)) c.from_residual.ensures
    ∙ from_nothing (flat S c.args.root.0) c.args.place.now (flat_good S c.whole.ensures.store c.args.root.0 c.requires).tree c.in_err-found.ensures.found

pub loop-component-init : goal.loop-component-init
loop-component-init g c =
    let S = c.args.store.now in
    record {
      way = record {
        held = c.in_ok-found.ensures.held;
        stands = from_root (flat S c.args.root.0) (node S c.in_ok-found.found) c.args.place.now (flat_good S c.whole.ensures.store c.args.root.0 c.requires).tree c.in_ok-found.ensures.found;
      };
      paid = omega arith;
    }

pub returns-in_err-found-2-clause-found : goal.returns-in_err-found-2-clause-found
returns-in_err-found-2-clause-found g c =
    let S = c.args.store.now in
    let i = c.loop-component.component-index in
    let e = read_at c.args.place.now c.args.place.now i c.component-item.result c.bytes.result.now refl c.bytes.ensures.bytes c.component-item.is in
    ap (option_map (node S)) c.from_residual-in_err-found-2.ensures
    ∙ way_off S c.whole.ensures.store (flat S c.args.root.0) c.args.place.now i c.loop-component.found c.loop-component.invariant.way c.bytes.result.now c.loop-component-test.true e (sym c.is_dir.ensures ∙ c.if-not-is_dir.false) c.in_err-found-2.ensures.found

pub loop-component-preserved : goal.loop-component-preserved
loop-component-preserved g c =
    let S = c.args.store.now in
    let i = c.loop-component.component-index in
    let e = read_at c.args.place.now c.args.place.now i c.component-item.result c.bytes.result.now refl c.bytes.ensures.bytes c.component-item.is in
    record {
      way = way_on S c.whole.ensures.store (flat S c.args.root.0) c.args.place.now i c.loop-component.found c.loop-component.invariant.way c.bytes.result.now c.loop-component-test.true e c.in_ok-found-2.found (sym c.is_dir.ensures ∙ c.if-not-is_dir.false) c.in_ok-found-2.ensures.held c.in_ok-found-2.ensures.found;
      paid = omega arith;
    }

pub returns-clause-found : goal.returns-clause-found
returns-clause-found g c =
    let S = c.args.store.now in
    arrived S (flat S c.args.root.0) c.args.place.now c.loop-component.component-index c.loop-component.found c.whole.ensures.store c.loop-component.invariant.way c.loop-component-test.false
