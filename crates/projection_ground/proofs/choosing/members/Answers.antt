use Rattle.std.proofs.Common.{◌≤◌, length, map, sym, ◌∙◌, ap, arith}
use Rattle.std.specs.List.{filter_map}
use Rattle.std.proofs.lemmas.List.{at_drop_all}
use Rattle.commit_map.specs.Shown.{shown_value}
use Rattle.projection_laws.specs.Projections.{distinct, distinct_from, known_at}
use Rattle.projection_laws.specs.StoredGraphs.{name_at}
use Rattle.projection_ground.proofs.Gathering.{filter-names}
use Rattle.projection_ground.proofs.choosing.members.Goals as goal

pub returns-clause-members : goal.returns-clause-members
returns-clause-members c =
    let g = c.args.ground.now in
    let ps = c.args.parents.now in
    let end : length ps ≤ c.loop-parent.parent-index = let f = c.loop-parent-test.false in omega (arith, f) in
    sym (at_drop_all (λ qs. distinct_from (map shown_value c.loop-parent.found.items) (filter_map (λ p. known_at g.map (name_at g.graph p)) qs)) ps c.loop-parent.parent-index end)
    ∙ c.loop-parent.invariant.whole
    ∙ ap distinct (sym (filter-names (name_at g.graph) (known_at g.map) ps))
