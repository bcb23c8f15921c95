use Rattle.std.proofs.Common.{refl, ℕ, ◌<◌, length, Option, IfSome, subst, arith}
use Rattle.std.proofs.lemmas.Result.{err_from_is_err_and}
use Rattle.stage_nodes.proofs.nodes.Nodes.place.Goals as goal

pub returns-in_err-push-in-None-clause-number : goal.returns-in_err-push-in-None-clause-number
returns-in_err-push-in-None-clause-number c = let p = err_from_is_err_and c.from_residual.result c.from_residual.ensures.1 in rw (p.1) tt

pub returns-in_err-push-in-None-clause-cells : goal.returns-in_err-push-in-None-clause-cells
returns-in_err-push-in-None-clause-cells c = let p = err_from_is_err_and c.from_residual.result c.from_residual.ensures.1 in rw (p.1) tt

pub returns-in_err-push-in-None-clause-free : goal.returns-in_err-push-in-None-clause-free
returns-in_err-push-in-None-clause-free c = let p = err_from_is_err_and c.from_residual.result c.from_residual.ensures.1 in rw (p.1) tt

pub returns-in_err-push-in-None-clause-names : goal.returns-in_err-push-in-None-clause-names
returns-in_err-push-in-None-clause-names c = refl

pub returns-in-Some-clause-same : goal.returns-in-Some-clause-same
returns-in-Some-clause-same c = tt

pub returns-in-Some-clause-names : goal.returns-in-Some-clause-names
returns-in-Some-clause-names c = refl

pub returns-in_ok-push-in-None-clause-same : goal.returns-in_ok-push-in-None-clause-same
returns-in_ok-push-in-None-clause-same c = tt

pub returns-in_ok-push-in-None-clause-names : goal.returns-in_ok-push-in-None-clause-names
returns-in_ok-push-in-None-clause-names c = refl

pub index-requires : goal.index-requires
index-requires c = let h : c.in-Some.number < length c.args.self.now.cells.items = subst (λ (o : Option ℕ). IfSome o (λ k. k < length c.args.self.now.cells.items)) c.in-Some.is c.requires in omega (arith, h)
