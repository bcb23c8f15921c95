use Rattle.std.proofs.Common.{arith}
use Rattle.stage_nodes.proofs.Ticking.{sibling_passed, none_left}
use Rattle.stage_nodes.proofs.nodes.Nodes.tick_siblings.Goals as goal

pub siblings-smaller : goal.siblings-smaller
siblings-smaller g c = (sibling_passed c.args.self.now c.siblings.link c.in-Some.number c.in-Some.ensures c.siblings.invariant.walk).smaller

pub siblings-preserved : goal.siblings-preserved
siblings-preserved g c =
    let p = sibling_passed c.args.self.now c.siblings.link c.in-Some.number c.in-Some.ensures c.siblings.invariant.walk in
    record { link = p.inside; walk = p.walk; counted = omega (arith, p.counted, c.siblings.invariant.counted) }

pub returns : goal.returns
returns g c = omega (arith, none_left c.args.self.now c.siblings.link c.in_default.ensures, c.siblings.invariant.counted)
