use Rattle.std.proofs.lemmas.Result.{err_from_is_err_and}
use Rattle.stage_nodes.proofs.nodes.Nodes.of_root.Goals as goal

pub returns-in_err-cells : goal.returns-in_err-cells
returns-in_err-cells c = let p = err_from_is_err_and c.from_residual.result c.from_residual.ensures.1 in rw (p.1) tt

pub returns-in_err-push : goal.returns-in_err-push
returns-in_err-push c = let p = err_from_is_err_and c.from_residual-in_err-push.result c.from_residual-in_err-push.ensures.1 in rw (p.1) tt

pub returns-in_err-with_capacity : goal.returns-in_err-with_capacity
returns-in_err-with_capacity c = let p = err_from_is_err_and c.from_residual-in_err-with_capacity.result c.from_residual-in_err-with_capacity.ensures.1 in rw (p.1) tt
