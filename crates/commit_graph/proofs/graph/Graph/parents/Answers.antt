use Rattle.std.proofs.Common.{◌≡◌, ◌<◌, Some, All, slice_get, sym, ap, subst, ◌∙◌}
use Rattle.std.specs.Map.Iter.{deref_pair}
use Rattle.std.specs.Option.{option_map}
use Rattle.std.proofs.lemmas.Option.{slice_get-map}
use Rattle.commit_graph.specs.Nodes.{row, rows}
use Rattle.commit_graph.proofs.graph.Graph.parents.Goals as goal

pub returns-clause-below : goal.returns-clause-below
returns-clause-below c =
    let es = c.self.inside.nodes.entries in
    let at : slice_get (rows es) c.args.i ≡ Some (row (deref_pair c.unwrap.result)) =
    slice_get-map row es c.args.i ∙ ap (option_map row) (sym c.get_index.ensures.entry ∙ ap (option_map deref_pair) c.unwrap.ensures) in
    subst (All (λ p. p < c.args.i)) (sym c.deref.ensures.value) (c.self.invariant.graph.placed c.args.i _ at)
