use Rattle.stage_nodes.specs.Ways.{IsStill}
use Rattle.stage_nodes.proofs.Finishing.{on_ok}
use Rattle.stage_nodes.proofs.Rooting.{of_err}
use Rattle.stage_tree.specs.Sets.{IsUnmoved}
use Rattle.stage_tree.proofs.FromLast.{arrived_down, unmoved_still}
use Rattle.stage_tree.proofs.last.arrive.Goals as goal

pub returns-clause-ok : goal.returns-clause-ok
returns-clause-ok c =
    on_ok c.way.result (λ w h. arrived_down c.args.store.now c.args.nodes.now c.start.new.nodes c.way.new.self c.args.components.now c.way.new.passed.items w.level w.spot.link w.spot.child c.in_ok-link.ensures.ok.0 h) c.way.ensures.ok

pub returns-clause-err : goal.returns-clause-err
returns-clause-err c =
    of_err c.way.result (IsStill c.args.store.now c.start.new.nodes c.way.new.self) (IsUnmoved c.args.store.now c.args.nodes.now c.way.new.self)
    (λ h. unmoved_still c.args.store.now c.args.nodes.now c.start.new.nodes c.way.new.self c.in_ok-link.ensures.ok.0 h) c.way.ensures.err
