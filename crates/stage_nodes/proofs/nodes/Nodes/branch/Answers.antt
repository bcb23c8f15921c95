use Rattle.std.proofs.Common.{◌≡◌, ◌-◌, ℕ, length, drop, refl, subst, arith}
use Rattle.std.proofs.lemmas.Result.{err_from_is_err_and}
use Rattle.path_trees.proofs.Lookups.{read_at}
use Rattle.stage_nodes.specs.Branches.{IsBranch}
use Rattle.stage_nodes.proofs.Branching.{same_waste, last_branch, longer_branch, can_free_branch, branch_wasted}
use Rattle.stage_nodes.proofs.nodes.Nodes.branch.Goals as goal

pub returns-in_err-number-clause-err : goal.returns-in_err-number-clause-err
returns-in_err-number-clause-err c =
    let p = err_from_is_err_and c.from_residual.result c.from_residual.ensures.1 in
    rw (p.1) (same_waste c.args.self.now c.add.new.self c.requires.pool c.in_err-number.ensures.err)

pub depth-init : goal.depth-init
depth-init c =
    let p = c.args.components.now in
    let own = read_at p p (length p - 1) c.index-components-depth.result c.bytes.result.now refl c.bytes.ensures.bytes c.index-components-depth.is in
    record {
      low = omega arith;
      within = omega arith;
      branch = last_branch c.args.self.now c.add.new.self p (length p - 1) c.bytes.result.now c.args.found c.in_ok-number.number (omega arith) own c.requires.pool c.in_ok-number.ensures.ok;
    }

pub depth-preserved : goal.depth-preserved
depth-preserved c =
    let p = c.args.components.now in
    let own = read_at p p (c.depth.depth - 1) c.index-components-depth-in-depth.result c.bytes-in-depth.result.now refl c.bytes-in-depth.ensures.bytes c.index-components-depth-in-depth.is in
    record {
      low = omega arith;
      within = omega arith;
      branch = longer_branch c.args.self.now c.depth.self c.add-in-depth.new.self p (c.depth.depth - 1) c.depth.depth c.bytes-in-depth.result.now c.args.found c.depth.number c.in-Ok.above (omega arith) c.depth.invariant.within own c.depth.invariant.branch c.in-Ok.ensures.ok;
    }

pub free_all-requires : goal.free_all-requires
free_all-requires c = can_free_branch c.args.self.now c.depth.self c.add-in-depth.new.self c.add-in-depth.new.self (drop c.depth.depth c.args.components.now) c.args.found c.depth.number c.depth.invariant.branch c.in-Err.ensures.err

pub returns-in-Err-clause-err : goal.returns-in-Err-clause-err
returns-in-Err-clause-err c = branch_wasted c.args.self.now c.depth.self c.add-in-depth.new.self c.free_all.new.self (drop c.depth.depth c.args.components.now) c.args.found c.depth.number c.depth.invariant.branch c.in-Err.ensures.err c.free_all.ensures

pub returns-clause-ok : goal.returns-clause-ok
returns-clause-ok c =
    let same : c.depth.depth ≡ c.args.level = omega (arith, c.depth.invariant.low) in
    subst (λ (k : ℕ). IsBranch c.args.self.now c.depth.self (drop k c.args.components.now) c.args.found c.depth.number) same c.depth.invariant.branch

pub returns-in_err-number-clause-ok : goal.returns-in_err-number-clause-ok
returns-in_err-number-clause-ok c = let p = err_from_is_err_and c.from_residual.result c.from_residual.ensures.1 in rw (p.1) tt

pub returns-in-Err-clause-ok : goal.returns-in-Err-clause-ok
returns-in-Err-clause-ok c = tt

pub returns-clause-err : goal.returns-clause-err
returns-clause-err c = tt
