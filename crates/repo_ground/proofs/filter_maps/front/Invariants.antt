use Rattle.std.proofs.Common.{◌≡◌, take}
use Rattle.commit_map.specs.Shown.{kept_at}
use Rattle.git_objects.specs.Paths.{Bytes}
use Rattle.repo_ground.proofs.filter_maps.front.Given as goal

abbrev pub invariant-loop-i : goal.invariant-loop-i
invariant-loop-i l = (n : Bytes) → kept_at n l.front ≡ kept_at n (take l.i l.map)
