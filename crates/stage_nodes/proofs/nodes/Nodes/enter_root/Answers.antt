use Rattle.std.proofs.Common.{arith, refl}
use Rattle.std.proofs.lemmas.Result.{err_from_is_err_and}
use Rattle.stage_nodes.proofs.Paying.{paid_root}
use Rattle.stage_nodes.proofs.nodes.Nodes.enter_root.Goals as goal

pub returns-in-Held-clause-paid : goal.returns-in-Held-clause-paid
returns-in-Held-clause-paid g c = λ t st.
    omega (arith, c.tick_siblings.ensures, paid_root c.args.store.now c.requires.store c.open_root.new.self c.in_ok-open_root.ensures.ok.opened t st)

pub open_root-requires-clause-stage : goal.open_root-requires-clause-stage
open_root-requires-clause-stage g c = c.requires.stage

pub open_root-requires-clause-held : goal.open_root-requires-clause-held
open_root-requires-clause-held g c = c.requires.held

pub returns-in_err-open_root-clause-ok : goal.returns-in_err-open_root-clause-ok
returns-in_err-open_root-clause-ok g c = let p = err_from_is_err_and c.from_residual.result c.from_residual.ensures.1 in rw (p.1) tt

pub returns-in_err-open_root-clause-err : goal.returns-in_err-open_root-clause-err
returns-in_err-open_root-clause-err g c = let p = err_from_is_err_and c.from_residual.result c.from_residual.ensures.1 in rw (p.1) c.in_err-open_root.ensures.err

pub returns-in_err-open_root-clause-paid : goal.returns-in_err-open_root-clause-paid
returns-in_err-open_root-clause-paid g c = let p = err_from_is_err_and c.from_residual.result c.from_residual.ensures.1 in rw (p.1) tt

pub returns-in_err-open_root-clause-none : goal.returns-in_err-open_root-clause-none
returns-in_err-open_root-clause-none g c = let p = err_from_is_err_and c.from_residual.result c.from_residual.ensures.1 in rw (p.1) refl

pub returns-in-Held-clause-ok : goal.returns-in-Held-clause-ok
returns-in-Held-clause-ok g c = c.in_ok-open_root.ensures.ok

pub returns-in-Held-clause-err : goal.returns-in-Held-clause-err
returns-in-Held-clause-err g c = tt

pub returns-in-Held-clause-none : goal.returns-in-Held-clause-none
returns-in-Held-clause-none g c = tt

pub returns-in_default-clause-ok : goal.returns-in_default-clause-ok
returns-in_default-clause-ok g c = c.in_ok-open_root.ensures.ok

pub returns-in_default-clause-err : goal.returns-in_default-clause-err
returns-in_default-clause-err g c = tt

pub returns-in_default-clause-none : goal.returns-in_default-clause-none
returns-in_default-clause-none g c = tt
