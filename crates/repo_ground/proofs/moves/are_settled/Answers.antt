use Rattle.std.proofs.Common.{ap, ◌∙◌, drop, map, ◌+◌}
use Rattle.fast_import.specs.Replaying.{setting_value}
use Rattle.repo_ground.specs.Moves.{first_backward, or_later}
use Rattle.repo_ground.proofs.TestedMoves.{next-test}
use Rattle.repo_ground.proofs.moves.are_settled.Goals as goal

pub loop-setting-preserved : goal.loop-setting-preserved
loop-setting-preserved c = λ cs sorted h.
    let k = c.loop-setting.setting-index in
    let s = c.setting-item.result in
    let later = first_backward cs sorted (map setting_value (drop (k + 1) c.args.settings.now)) in
    c.loop-setting.invariant cs sorted h
    ∙ next-test c.args.settings.now k s c.loop-setting-test.true c.setting-item.is cs sorted
    ∙ ap (λ m. or_later m later) (c.is_settled.ensures (cc) cs sorted h)
