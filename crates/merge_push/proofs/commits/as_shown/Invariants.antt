use Rattle.std.proofs.Common.{◌≡◌, map, take}
use Rattle.commit_map.specs.declared.commit_map.Shown.{Shown}
use Rattle.projection_ground.specs.Choosing.{names_at}
use Rattle.merge_push.proofs.commits.as_shown.Given as goal

-- the commits so far
abbrev pub invariant-loop-place : goal.invariant-loop-place
invariant-loop-place l = map (λ (s : Shown). s.commit.0) l.upon.items ≡ names_at l.ground.graph (take l.place-index l.places)
