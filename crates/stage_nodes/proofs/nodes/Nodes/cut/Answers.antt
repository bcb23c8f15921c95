use Rattle.std.proofs.Common.{ap}
use Rattle.stage_nodes.proofs.Cutting.{cut_inside, cut_link, cut_inside_2, cut_can_free, is_cut}
use Rattle.stage_nodes.proofs.nodes.Nodes.cut.Goals as goal

pub target-behind-requires : goal.target-behind-requires
target-behind-requires c = cut_inside c.args.self.now c.args.link c.args.child c.requires

pub point-requires : goal.point-requires
point-requires c = cut_link c.args.self.now c.args.link c.args.child c.requires

pub point-requires-2 : goal.point-requires-2
point-requires-2 c = cut_inside_2 c.args.self.now c.args.link c.args.child c.requires c.point.new.self c.target-behind.result c.target-behind.ensures c.point.ensures.cells (ap (λ v. v.items) c.point.ensures.names) c.point.ensures.free

pub free_all-requires : goal.free_all-requires
free_all-requires c =
    cut_can_free c.args.self.now c.args.link c.args.child c.requires c.point.new.self c.target-behind.result c.target-behind.ensures c.point.ensures.cells (ap (λ v. v.items) c.point.ensures.names) c.point.ensures.free
    c.point-2.new.self c.point-2.new.self c.point-2.ensures.cells (ap (λ v. v.items) c.point-2.ensures.names) c.point-2.ensures.free

pub returns : goal.returns
returns c = λ h.
    is_cut c.args.self.now c.args.link c.args.child h c.point.new.self c.target-behind.result c.target-behind.ensures c.point.ensures.cells (ap (λ v. v.items) c.point.ensures.names) c.point.ensures.free
    c.point-2.new.self c.free_all.new.self c.point-2.ensures.cells (ap (λ v. v.items) c.point-2.ensures.names) c.point-2.ensures.free c.free_all.ensures
