use Rattle.commit_graph.proofs.Reaching.{IsListing}
use Rattle.commit_graph.proofs.graph.Graph.ancestors_from.Given as goal

abbrev pub invariant-loop-i : goal.invariant-loop-i
invariant-loop-i l = IsListing l.low l.marks.items l.found.items l.i
