use Rattle.std.proofs.Common.{rules}
use Rattle.stage_nodes.proofs.Freeing.{all_freed}
use Rattle.stage_nodes.proofs.nodes.Nodes.free_all.Goals as goal

pub returns : goal.returns
returns c = all_freed c.args.self.now c.nodes.self c.args.from c.nodes.top (search rules) c.nodes.invariant
