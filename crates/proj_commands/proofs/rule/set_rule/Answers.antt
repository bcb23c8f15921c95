-- Proves what src/rule.rt needs of `set_rule`.
use Rattle.std.proofs.Common.{◌∙◌}
use Rattle.proj_io.specs.Views.{KeeperView, keeper_view}
use Rattle.proj_commands.proofs.RulesSet.{set-done, set-refused, unset}
use Rattle.proj_commands.proofs.rule.set_rule.Goals as goal

pub returns-in_err-line-clause-made : goal.returns-in_err-line-clause-made
returns-in_err-line-clause-made g c = λ items h w.
    let seen : KeeperView = keeper_view g.K.Keeper.items g.K.Keeper.number g.K.Keeper.faults c.args.store.now in
    unset items h c.args.state.now c.args.rule w seen (g.K.Keeper.moment c.args.store.now) (g.K.Keeper.left_since c.args.store.now) c.from_residual.result c.from_residual.ensures.1

pub returns-in-Err-clause-made : goal.returns-in-Err-clause-made
returns-in-Err-clause-made g c = λ items h w.
    let e = c.in-Err.ensures in
    let before = c.args.store.now in
    let now = c.set_rule.new.keeper in
    set-refused items h c.args.state.now c.args.rule w c.set_rule.new.self (keeper_view g.K.Keeper.items g.K.Keeper.number g.K.Keeper.faults before)
    (keeper_view g.K.Keeper.items g.K.Keeper.number g.K.Keeper.faults now)
    (g.K.Keeper.moment before) (g.K.Keeper.moment now) (g.K.Keeper.left_since before) (g.K.Keeper.left_since now) c.in-Err.error c.commit_outcome.result c.commit_outcome.ensures (e.state h w.spells) e.store
    (e.items h w.spells) (e.stops.0 h w.spells) e.stops.1

pub returns-in-Ok-clause-made : goal.returns-in-Ok-clause-made
returns-in-Ok-clause-made g c = λ items h w.
    let e = c.in-Ok.ensures in
    let before = c.args.store.now in
    let now = c.set_rule.new.keeper in
    set-done items h c.args.state.now c.args.rule w c.set_rule.new.self (keeper_view g.K.Keeper.items g.K.Keeper.number g.K.Keeper.faults before)
    (keeper_view g.K.Keeper.items g.K.Keeper.number g.K.Keeper.faults now)
    (g.K.Keeper.moment before) (g.K.Keeper.moment now) (g.K.Keeper.left_since before) (g.K.Keeper.left_since now) tt c.of.result (c.of.ensures ∙ c.in_ok-line.ensures) (e.state h w.spells) (e.items h w.spells)
    (e.stops.0 h w.spells)
