use Rattle.std.proofs.Common.{◌≡◌, ◌++◌, drop, filter, map}
use Rattle.fast_import.specs.Replaying.{setting_value}
use Rattle.ref_store.specs.Pairs.{pairs}
use Rattle.repo_ground.specs.Moving.{moves_in}
use Rattle.repo_ground.proofs.moved.moved.Given as goal

abbrev pub invariant-loop-setting : goal.invariant-loop-setting
invariant-loop-setting l =
    filter (moves_in l.refs) (map setting_value l.settings)
    ≡ pairs l.found.items ++ filter (moves_in l.refs) (map setting_value (drop l.setting-index l.settings))
