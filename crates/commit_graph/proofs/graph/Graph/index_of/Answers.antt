use Rattle.std.proofs.Common.{List, ap, ◌∙◌}
use Rattle.commit_graph.specs.Graphs.{Row, place_of}
use Rattle.commit_graph.proofs.Places.{place-rows}
use Rattle.commit_graph.proofs.graph.Graph.index_of.Goals as goal

pub returns-in-Some-clause-place : goal.returns-in-Some-clause-place
returns-in-Some-clause-place c = c.in-Some.ensures.index ∙ place-rows c.args.name.now c.self.inside.nodes.entries ∙ ap (λ (rs : List Row). place_of c.args.name.now.0 rs) c.self.view_is

pub returns-in-None-clause-place : goal.returns-in-None-clause-place
returns-in-None-clause-place c = c.in-None.ensures.index ∙ place-rows c.args.name.now c.self.inside.nodes.entries ∙ ap (λ (rs : List Row). place_of c.args.name.now.0 rs) c.self.view_is
