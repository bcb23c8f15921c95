-- Proves what src/histories.rt needs of `history`.
use Rattle.std.proofs.Common.{◌≡◌, ◌∷◌, [], None, map}
use Rattle.std.specs.List.{last_or}
use Rattle.std.specs.Option.{option_map}
use Rattle.git_objects.specs.Parts.{name_bytes}
use Rattle.filter_text.specs.Shapes.{shape}
use Rattle.workspace.specs.Workspaces.{shown}
use Rattle.projection_laws.specs.Histories.{AreMade}
use Rattle.projection_laws.specs.ProjectionLaws.{AreOfDistinctNames}
use Rattle.projection_laws.specs.Projections.{history_graph, own_commits, projection}
use Rattle.projection_laws.proofs.StoredGraphs.{whole-graph}
use Rattle.projection_ground.specs.Grounds.{commits_of}
use Rattle.history_ground.proofs.LastNames.{last-made}
use Rattle.history_ground.proofs.ProjectLemmas.{ok-still}
use Rattle.history_ground.proofs.histories.history.Goals as goal

pub returns-clause-last : goal.returns-clause-last
returns-clause-last c =
    let g = c.args.ground.now in
    let f = shape c.args.filter.now in
    let n = c.args.head.now.0 in
    let S = c.taken-result.new.ground.store in
    ok-still (λ v. AreMade S (history_graph g.rule (shown f) (commits_of g) n) (map name_bytes v.items))
    (λ v. AreOfDistinctNames (own_commits g.rule (shown f) (commits_of g) (n ∷ []))
    → last_or None (map name_bytes v.items) ≡ option_map (λ p. p.commit) (projection g.rule (shown f) (commits_of g) n))
    c.taken-result.result
    (λ v made apart. last-made c.history_law.ensures g.rule (shown f) (commits_of g) n (whole-graph g.store g.graph c.requires.ground.graph) S (map name_bytes v.items) made apart)
    c.taken-result.ensures.ok
