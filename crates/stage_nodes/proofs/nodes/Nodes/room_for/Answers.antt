use Rattle.stage_nodes.proofs.Ticking.{sibling_passed}
use Rattle.stage_nodes.proofs.nodes.Nodes.room_for.Goals as goal

pub children-smaller : goal.children-smaller
children-smaller c = (sibling_passed c.args.self.now c.children.link c.in-Some.number c.in-Some.ensures c.children.invariant.walk).smaller

pub children-preserved : goal.children-preserved
children-preserved c =
    let p = sibling_passed c.args.self.now c.children.link c.in-Some.number c.in-Some.ensures c.children.invariant.walk in
    record { place = p.inside; walk = p.walk }
