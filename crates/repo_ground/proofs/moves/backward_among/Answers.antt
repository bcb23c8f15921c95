use Rattle.std.proofs.Common.{subst, sym, ◌∙◌, drop, map, ◌+◌}
use Rattle.std.specs.FinMap.{find}
use Rattle.git_objects.specs.Refs.{bytes_cmp}
use Rattle.fast_import.specs.Replaying.{setting_value}
use Rattle.repo_ground.specs.Moves.{IsMove, backward, first_backward}
use Rattle.repo_ground.proofs.TestedMoves.{first-found, later-found, next-test, one-test}
use Rattle.repo_ground.proofs.moves.backward_among.Goals as goal

pub backward_at-requires : goal.backward_at-requires
backward_at-requires c =
    let q = c.requires.may in
    record { may = (q.0, q.1, q.2, one-test c.args.settings.now c.loop-setting.setting-index c.setting-item.result c.loop-setting-test.true c.setting-item.is q.0 c.args.graph.now q.1 c.args.refs.now q.2 q.3) }

pub returns-then-is_some : goal.returns-then-is_some
returns-then-is_some c = λ S cs sorted m.
    let k = c.loop-setting.setting-index in
    let s = c.setting-item.result in
    let t = one-test c.args.settings.now k s c.loop-setting-test.true c.setting-item.is S c.args.graph.now cs c.args.refs.now sorted m in
    let same = c.loop-setting.invariant S cs sorted m ∙ next-test c.args.settings.now k s c.loop-setting-test.true c.setting-item.is cs sorted in
    let later = first_backward cs sorted (map setting_value (drop (k + 1) c.args.settings.now)) in
    subst (λ o. IsMove o c.in_ok-found.found) (sym same)
    (first-found (backward cs (setting_value s) (find bytes_cmp s.refname sorted)) later c.in_ok-found.found (c.in_ok-found.ensures S cs sorted t) (sym c.is_some.ensures ∙ c.if-is_some.true))

pub loop-setting-preserved : goal.loop-setting-preserved
loop-setting-preserved c = λ S cs sorted m.
    let k = c.loop-setting.setting-index in
    let s = c.setting-item.result in
    let t = one-test c.args.settings.now k s c.loop-setting-test.true c.setting-item.is S c.args.graph.now cs c.args.refs.now sorted m in
    let later = first_backward cs sorted (map setting_value (drop (k + 1) c.args.settings.now)) in
    c.loop-setting.invariant S cs sorted m
    ∙ next-test c.args.settings.now k s c.loop-setting-test.true c.setting-item.is cs sorted
    ∙ later-found (backward cs (setting_value s) (find bytes_cmp s.refname sorted)) later c.in_ok-found.found (c.in_ok-found.ensures S cs sorted t) (sym c.is_some.ensures ∙ c.if-is_some.false)
