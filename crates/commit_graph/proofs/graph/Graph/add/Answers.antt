use Rattle.std.proofs.Common.{◌++◌, ◌∷◌, [], ◌<◌, ◌^◌, List, All, length, sym, ap, subst, ◌∙◌}
use Rattle.commit_graph.specs.Graphs.{Row, place_of}
use Rattle.commit_graph.specs.Nodes.{row, HoldsGraph}
use Rattle.commit_graph.proofs.Places.{holds-push, rows-insert}
use Rattle.commit_graph.proofs.graph.Graph.add.Goals as goal

pub invariant_of-self-2 : goal.invariant_of-self-2
invariant_of-self-2 c =
    let fresh = ap (place_of c.args.name.0) c.self.view_is ∙ c.requires.fresh in
    subst HoldsGraph (sym (rows-insert c.self.inside.nodes _ c.args.name (record { tree = c.args.tree; parents = c.args.parents }) c.in_ok-insert.ensures.entries fresh))
    (holds-push _ (row (c.args.name, record { tree = c.args.tree; parents = c.args.parents })) c.self.invariant fresh
    (subst (λ (rs : List Row). All (λ p. p < length rs) c.args.parents.items) (sym c.self.view_is) c.requires.placed)
    (subst (λ (rs : List Row). length rs < 2 ^ 30) (sym c.self.view_is) c.requires.room))

pub returns-clause-ok : goal.returns-clause-ok
returns-clause-ok c =
    rows-insert c.self.inside.nodes _ c.args.name _ c.in_ok-insert.ensures.entries (ap (place_of c.args.name.0) c.self.view_is ∙ c.requires.fresh)
    ∙ ap (λ (rs : List Row). rs ++ record { name = c.args.name.0; tree = c.args.tree.0; parents = c.args.parents.items } ∷ []) c.self.view_is
