use Rattle.std.proofs.Common.{ap}
use Rattle.stage_nodes.proofs.nodes.Nodes.put_before.Goals as goal

pub returns : goal.returns
returns c = record {
  middle = c.point.new.self;
  next_cells = c.point.ensures.cells;
  next_names = ap (λ v. v.items) c.point.ensures.names;
  next_free = c.point.ensures.free;
  link_cells = c.point-2.ensures.cells;
  link_names = ap (λ v. v.items) c.point-2.ensures.names;
  link_free = c.point-2.ensures.free;
}
