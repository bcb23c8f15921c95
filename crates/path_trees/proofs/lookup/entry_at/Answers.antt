use Rattle.std.proofs.Common.{◌≡◌, ◌-◌, length, None, ap, sym, ◌∙◌, arith, get_or}
use Rattle.std.specs.Option.{option_map}
use Rattle.object_store.specs.Unfolding.{flat}
use Rattle.path_trees.specs.Standing.{node}
use Rattle.path_trees.proofs.Lookups.{way_on, way_ends, way_last, found_last, read_at, path_long}
use Rattle.path_trees.proofs.lookup.entry_at.Goals as goal

pub loop-i-preserved : goal.loop-i-preserved
loop-i-preserved c =
    let S = c.args.store.now in
    let same = c.components-components.ensures.components in
    let n : length c.components-components.result.now ≡ length c.args.path.now = ap length same in
    let w = way_on S (flat S c.args.root.0) c.args.path.now c.loop-i.directory.0 c.loop-i.i c.loop-i.invariant.held c.loop-i.invariant.rest c.bytes.result.now c.directory_in.result c.directory_in.ensures.store c.in_ok-directory.directory (omega arith)
    (read_at c.components-components.result.now c.args.path.now c.loop-i.i c.index-components-i.result c.bytes.result.now same c.bytes.ensures.bytes c.index-components-i.is) c.in_ok-directory.was c.directory_in.ensures.name in
    record { held = w.0; rest = w.1 }

pub returns-in_err-directory-clause-found : goal.returns-in_err-directory-clause-found
returns-in_err-directory-clause-found c =
    let S = c.args.store.now in
    let same = c.components-components.ensures.components in
    let n : length c.components-components.result.now ≡ length c.args.path.now = ap length same in
    ap (option_map (node S)) c.from_residual.ensures
    ∙ way_ends S (flat S c.args.root.0) c.args.path.now c.loop-i.directory.0 c.loop-i.i c.loop-i.invariant.held c.loop-i.invariant.rest c.bytes.result.now c.directory_in.result c.directory_in.ensures.store (omega arith)
    (read_at c.components-components.result.now c.args.path.now c.loop-i.i c.index-components-i.result c.bytes.result.now same c.bytes.ensures.bytes c.index-components-i.is) c.in_err-directory.was c.directory_in.ensures.name

pub returns-clause-found : goal.returns-clause-found
returns-clause-found c =
    let S = c.args.store.now in
    let same = c.components-components.ensures.components in
    let n : length c.components-components.result.now ≡ length c.args.path.now = ap length same in
    let long = path_long c.args.path.now c.components-components.ensures.path in
    let last : c.loop-i.i ≡ length c.components-components.result.now - 1 = omega arith in
    way_last S (flat S c.args.root.0) c.args.path.now c.loop-i.directory.0 c.loop-i.i c.loop-i.invariant.held c.loop-i.invariant.rest c.bytes-2.result.now None c.found_in.ensures.store c.found_in.result (omega arith)
    (read_at c.components-components.result.now c.args.path.now c.loop-i.i c.index-components-last.result c.bytes-2.result.now same c.bytes-2.ensures.bytes
    (c.index-components-last.is ∙ (λ j. get_or c.components-components.result.now (sym last j) c.index-components-last.result))) c.found_in.ensures.found

pub returns-clause-held : goal.returns-clause-held
returns-clause-held c =
    let S = c.args.store.now in
    found_last S (flat S c.args.root.0) c.args.path.now c.loop-i.directory.0 c.loop-i.i c.loop-i.invariant.held c.loop-i.invariant.rest c.bytes-2.result.now None c.found_in.ensures.store c.found_in.result c.found_in.ensures.found
