use Rattle.commit_graph.proofs.Reaching.{IsSweeping}
use Rattle.commit_graph.proofs.graph.Graph.reached.Given as goal

abbrev pub invariant-loop-i : goal.invariant-loop-i
invariant-loop-i l = IsSweeping l.self l.head l.low l.marks.items l.i
