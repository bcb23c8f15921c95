use Rattle.std.proofs.Common.{◌≡◌, ◌-◌, ℕ, length, drop, refl, subst, ap, arith}
use Rattle.std.proofs.lemmas.Result.{err_from_is_err_and}
use Rattle.path_trees.proofs.Lookups.{read_at}
use Rattle.stage_tree.specs.Renames.{IsGraft}
use Rattle.stage_nodes.proofs.Branching.{same_waste}
use Rattle.stage_tree.proofs.Grafting.{last_trunk, longer_trunk, can_free_trunk, trunk_wasted, end_link, grafted}
use Rattle.stage_tree.proofs.renames.graft.Goals as goal

pub returns-in_err-end-clause-err : goal.returns-in_err-end-clause-err
returns-in_err-end-clause-err g c =
    let p = err_from_is_err_and c.from_residual.result c.from_residual.ensures.1 in
    rw (p.1) (same_waste c.args.nodes.now c.add.new.self c.requires.pool c.in_err-end.ensures.err)

pub depth-init : goal.depth-init
depth-init g c =
    let p = c.args.components.now in
    let own = read_at p p (length p - 1) c.index-components-depth.result c.bytes.result.now refl c.bytes.ensures.bytes c.index-components-depth.is in
    record {
      low = omega arith;
      within = omega arith;
      trunk = last_trunk c.args.nodes.now c.add.new.self p (length p - 1) c.bytes.result.now c.args.content c.in_ok-end.end (omega arith) own c.requires.pool c.in_ok-end.ensures.ok;
      made = omega arith;
    }

pub depth-preserved : goal.depth-preserved
depth-preserved g c =
    let p = c.args.components.now in
    let own = read_at p p (c.depth.depth - 1) c.index-components-depth-in-depth.result c.bytes-in-depth.result.now refl c.bytes-in-depth.ensures.bytes c.index-components-depth-in-depth.is in
    record {
      low = omega arith;
      within = omega arith;
      trunk = longer_trunk c.args.nodes.now c.depth.nodes c.add-in-depth.new.self p (c.depth.depth - 1) c.depth.depth c.bytes-in-depth.result.now c.args.content c.in_ok-end.end c.depth.number c.in-Ok.above (omega arith) c.depth.invariant.within own c.depth.invariant.trunk c.in-Ok.ensures.ok;
      made = omega (arith, c.depth.invariant.made);
    }

pub free_all-requires : goal.free_all-requires
free_all-requires g c = can_free_trunk c.args.nodes.now c.depth.nodes c.add-in-depth.new.self c.add-in-depth.new.self (drop c.depth.depth c.args.components.now) c.args.content c.in_ok-end.end c.depth.number c.depth.invariant.trunk c.in-Err.ensures.err

pub returns-in-Err-clause-err : goal.returns-in-Err-clause-err
returns-in-Err-clause-err g c = trunk_wasted c.args.nodes.now c.depth.nodes c.add-in-depth.new.self c.free_all.new.self (drop c.depth.depth c.args.components.now) c.args.content c.in_ok-end.end c.depth.number c.depth.invariant.trunk c.in-Err.ensures.err c.free_all.ensures

pub point-requires : goal.point-requires
point-requires g c = end_link c.args.nodes.now c.depth.nodes c.depth.nodes (drop c.depth.depth c.args.components.now) c.args.content c.in_ok-end.end c.depth.number c.depth.invariant.trunk

pub returns-clause-ok : goal.returns-clause-ok
returns-clause-ok g c =
    let same : c.depth.depth ≡ c.args.level = omega (arith, c.depth.invariant.low) in
    subst (λ (k : ℕ). IsGraft c.args.nodes.now c.point.new.self (drop k c.args.components.now) c.args.content c.args.first c.depth.number) same
    (grafted c.args.nodes.now c.depth.nodes c.point.new.self (drop c.depth.depth c.args.components.now) c.args.content c.in_ok-end.end c.depth.number c.depth.invariant.trunk c.args.first c.point.ensures.cells (ap (λ v. v.items) c.point.ensures.names) c.point.ensures.free)

pub returns-in-Err-clause-ok : goal.returns-in-Err-clause-ok
returns-in-Err-clause-ok g c = tt

pub returns-in-Err-clause-made : goal.returns-in-Err-clause-made
returns-in-Err-clause-made g c = tt

pub returns-clause-err : goal.returns-clause-err
returns-clause-err g c = tt

pub returns-in_err-end-clause-ok : goal.returns-in_err-end-clause-ok
returns-in_err-end-clause-ok g c = let p = err_from_is_err_and c.from_residual.result c.from_residual.ensures.1 in rw (p.1) tt

pub returns-in_err-end-clause-made : goal.returns-in_err-end-clause-made
returns-in_err-end-clause-made g c = let p = err_from_is_err_and c.from_residual.result c.from_residual.ensures.1 in rw (p.1) tt
