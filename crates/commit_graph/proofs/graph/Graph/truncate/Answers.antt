use Rattle.std.proofs.Common.{List, take, sym, ap, subst, ◌∙◌}
use Rattle.std.proofs.lemmas.List.{take-map}
use Rattle.commit_graph.specs.Graphs.{Row}
use Rattle.commit_graph.specs.Nodes.{row, rows, HoldsGraph}
use Rattle.commit_graph.proofs.Places.{holds-take}
use Rattle.commit_graph.proofs.graph.Graph.truncate.Goals as goal

pub invariant_of-self : goal.invariant_of-self
invariant_of-self c = subst HoldsGraph (sym (ap rows c.truncate.ensures.entries ∙ sym (take-map row c.args.len c.self.inside.nodes.entries))) (holds-take c.args.len _ c.self.invariant)

pub returns : goal.returns
returns c = ap rows c.truncate.ensures.entries ∙ sym (take-map row c.args.len c.self.inside.nodes.entries) ∙ ap (λ (rs : List Row). take c.args.len rs) c.self.view_is
