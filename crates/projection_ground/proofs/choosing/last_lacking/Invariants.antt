use Rattle.std.proofs.Common.{◌≤◌, ◌<◌, ℕ, length, get_or}
use Rattle.std.specs.Option.{IsSome}
use Rattle.commit_map.specs.Shown.{kept_at}
use Rattle.projection_laws.specs.StoredGraphs.{name_at}
use Rattle.projection_ground.proofs.choosing.last_lacking.Given as goal

-- something is kept of the commits at the later places
abbrev pub invariant-loop-i : goal.invariant-loop-i
invariant-loop-i l = (k d : ℕ) → l.i ≤ k → k < length l.places → IsSome (kept_at (name_at l.ground.graph (get_or l.places k d)) l.ground.map)
