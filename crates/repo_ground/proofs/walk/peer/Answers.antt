use Rattle.std.proofs.Common.{◌++◌, ap, drop, sym, ◌∙◌}
use Rattle.repo_ground.proofs.Passing.{one-more}
use Rattle.repo_ground.proofs.walk.peer.Goals as goal

pub returns-then-eq-2 : goal.returns-then-eq-2
returns-then-eq-2 c =
    let more = one-more c.args.beside.now c.beside.invariant.0 c.beside.beside c.beside.invariant.1 in
    (more.0, more.1 ∙ ap (λ es. more.0 ++ es) (ap (drop 1) (sym c.copy-rest.ensures) ∙ sym c.in_ok-other.ensures.rest))

pub beside-preserved : goal.beside-preserved
beside-preserved c =
    let more = one-more c.args.beside.now c.beside.invariant.0 c.beside.beside c.beside.invariant.1 in
    (more.0, more.1 ∙ ap (λ es. more.0 ++ es) (ap (drop 1) (sym c.copy-rest.ensures) ∙ sym c.in_ok-other.ensures.rest))
