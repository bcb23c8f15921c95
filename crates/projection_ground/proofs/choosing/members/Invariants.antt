use Rattle.std.proofs.Common.{◌≡◌, ◌≤◌, length, map, drop}
use Rattle.std.specs.List.{filter_map}
use Rattle.commit_map.specs.Shown.{shown_value}
use Rattle.projection_laws.specs.Projections.{distinct, distinct_from, known_at}
use Rattle.projection_laws.specs.StoredGraphs.{name_at}
use Rattle.projection_ground.proofs.choosing.members.Given as goal

-- the projections so far, and those of the parents that are left, are all, each once
abbrev pub invariant-loop-parent : goal.invariant-loop-parent
invariant-loop-parent l = record {
  few : length l.found.items ≤ l.parent-index;
  whole : distinct_from (map shown_value l.found.items) (filter_map (λ p. known_at l.ground.map (name_at l.ground.graph p)) (drop l.parent-index l.parents))
      ≡ distinct (filter_map (λ p. known_at l.ground.map (name_at l.ground.graph p)) l.parents);
}
