use Rattle.std.proofs.Common.{◌≡◌, ◌++◌, drop}
use Rattle.git_objects.specs.Paths.{Bytes}
use Rattle.commit_map.specs.Shown.{kept_at}
use Rattle.repo_ground.proofs.state.State.fresh.Given as goal

abbrev pub invariant-loop-i : goal.invariant-loop-i
invariant-loop-i l = (n : Bytes) → kept_at n (l.fresh ++ drop l.i l.self-inside.ground.map) ≡ kept_at n (drop l.self-inside.kept l.self-inside.ground.map)
