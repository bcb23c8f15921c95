use Rattle.std.proofs.Common.{ap}
use Rattle.stage_nodes.specs.Pools.{spare}
use Rattle.stage_nodes.proofs.Pools.{part_result, free_inside}
use Rattle.stage_nodes.proofs.nodes.Nodes.add_part.Goals as goal

pub place-requires : goal.place-requires
place-requires c = free_inside c.args.self.now (spare c.args.self.now) c.requires.pool.walk

pub returns-clause-ok : goal.returns-clause-ok
returns-clause-ok c = part_result c.args.self.now c.place.new.self c.args.content c.args.first c.args.at c.args.len c.place.result c.requires.pool c.requires.within (ap (λ v. v.items) c.place.ensures.names) c.place.ensures.number c.place.ensures.cells c.place.ensures.free
