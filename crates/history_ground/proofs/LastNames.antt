-- The name of the last commit of a history.
use Rattle.std.proofs.Common.{◌≡◌, true, List, [], ◌∷◌, map, reverse, Option, Some, None, refl, ap, ◌∙◌}
use Rattle.std.specs.List.{last_or}
use Rattle.std.specs.Option.{option_map}
use Rattle.git_objects.specs.Paths.{Bytes}
use Rattle.git_objects.specs.Trees.{Flat}
use Rattle.git_objects.specs.Snapshots.{Snapshot, Graph, snapshot_name, is_graph}
use Rattle.object_store.specs.Objects.{Object}
use Rattle.commit_map.specs.Shown.{Shown}
use Rattle.commit_map.specs.declared.rule.Rule.{Rule}
use Rattle.projection_laws.specs.Histories.{AreMade}
use Rattle.projection_laws.specs.ProjectionLaws.{AreOfDistinctNames, HistoryLaw}
use Rattle.projection_laws.specs.Projections.{shown_of, history, history_graph, own_commits, projection}

projected-names : (cs : List Snapshot) → map snapshot_name cs ≡ map (λ (p : Shown). p.commit) (map shown_of cs)
projected-names [] = refl
projected-names (c ∷ cs) = ap (λ (ns : List Bytes). snapshot_name c ∷ ns) (projected-names cs)

last-name : (o : Option Shown) (ps : List Shown) → last_or (option_map (λ (p : Shown). p.commit) o) (map (λ (p : Shown). p.commit) ps) ≡ option_map (λ (p : Shown). p.commit) (last_or o ps)
last-name o [] = refl
last-name o (p ∷ ps) = last-name (Some p) ps

-- where no two different commits that are made have one name, the last name is that of the head's projection
pub last-made : HistoryLaw → (k : Rule) (seen : Flat → Flat) (g : Graph) (h : Bytes) → is_graph g ≡ true → (S : List Object) (ns : List Bytes) → AreMade S (history_graph k seen g h) ns → AreOfDistinctNames (own_commits k seen g (h ∷ [])) → last_or None ns ≡ option_map (λ (p : Shown). p.commit) (projection k seen g h)
last-made law k seen g h s S ns made apart =
    ap (λ (ns : List Bytes). last_or None ns) (made.names ∙ projected-names (reverse (history_graph k seen g h)) ∙ ap (map (λ (p : Shown). p.commit)) (law.commits k seen g h s))
    ∙ last-name None (history k seen g h)
    ∙ ap (option_map (λ (p : Shown). p.commit)) (law.last k seen g h s apart)
