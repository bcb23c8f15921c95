use Rattle.std.proofs.Common.{◌≡◌, ◌≤◌, ◌<◌, ℕ, false, length, get_or}
use Rattle.commit_map.specs.Shown.{shown_value}
use Rattle.projection_laws.specs.Projections.{is_shown_as}
use Rattle.projection_laws.specs.StoredGraphs.{name_at}
use Rattle.projection_ground.proofs.choosing.is_among.Given as goal

-- none of the commits at the later places is projected to m
abbrev pub invariant-loop-i : goal.invariant-loop-i
invariant-loop-i l = (k d : ℕ) → l.i ≤ k → k < length l.places → is_shown_as l.ground.map (shown_value l.m) (name_at l.ground.graph (get_or l.places k d)) ≡ false
