use Rattle.std.proofs.Common.{◌≡◌, List, drop, map}
use Rattle.git_objects.specs.Refs.{Refs}
use Rattle.git_objects.specs.Snapshots.{Snapshot}
use Rattle.fast_import.specs.Replaying.{setting_value}
use Rattle.repo_ground.specs.Moves.{first_backward}
use Rattle.repo_ground.specs.Reaching.{IsSorting}
use Rattle.repo_ground.proofs.moves.are_settled.Given as goal

-- none of the settings so far moves a ref backward
abbrev pub invariant-loop-setting : goal.invariant-loop-setting
invariant-loop-setting l =
    (cs : List Snapshot) (sorted : Refs) → IsSorting l.refs sorted
    → first_backward cs sorted (map setting_value l.settings) ≡ first_backward cs sorted (map setting_value (drop l.setting-index l.settings))
