use Rattle.std.proofs.Common.{arith}
use Rattle.std.proofs.lemmas.Result.{err_from_is_err_and}
use Rattle.stage_nodes.specs.Ways.{kids_of}
use Rattle.stage_tree.proofs.CountLeaves.{but_few}
use Rattle.stage_tree.proofs.count.most_with.Goals as goal

pub returns-then-bound-le-TREE_FILES-clause-ok : goal.returns-then-bound-le-TREE_FILES-clause-ok
returns-then-bound-le-TREE_FILES-clause-ok c = λ n e.
    let few = but_few c.args.store.now c.args.child (kids_of c.args.nodes.now) in
    record {
      few = omega (arith, e, few, c.requires.most, c.saturating_add-bound.ensures, c.if-bound-le-TREE_FILES.true);
      most = omega (arith, e, few, c.requires.most, c.saturating_add-bound.ensures, c.if-bound-le-TREE_FILES.true);
    }

pub returns-then-bound-le-TREE_FILES-clause-err : goal.returns-then-bound-le-TREE_FILES-clause-err
returns-then-bound-le-TREE_FILES-clause-err c = tt

pub returns-in_err-left-clause-ok : goal.returns-in_err-left-clause-ok
returns-in_err-left-clause-ok c = let p = err_from_is_err_and c.from_residual.result c.from_residual.ensures.1 in rw (p.1) tt

pub returns-then-total-gt-TREE_FILES-clause-ok : goal.returns-then-total-gt-TREE_FILES-clause-ok
returns-then-total-gt-TREE_FILES-clause-ok c = tt

pub returns-clause-err : goal.returns-clause-err
returns-clause-err c = tt
