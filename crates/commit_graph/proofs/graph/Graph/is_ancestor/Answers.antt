use Rattle.std.proofs.Common.{arith, subst}
use Rattle.commit_graph.specs.Graphs.{IsGraph}
use Rattle.commit_graph.proofs.Reaching.{reaches-down}
use Rattle.commit_graph.proofs.graph.Graph.is_ancestor.Goals as goal

pub returns-then-old-new : goal.returns-then-old-new
returns-then-old-new c = (
  λ e. cc,
  λ u. let down = reaches-down c.args.self.now (subst IsGraph c.self.view_is c.self.invariant.graph) c.args.new c.args.old u in absurd (omega (arith, down)),
)
