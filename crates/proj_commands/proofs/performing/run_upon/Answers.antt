-- Proves what src/performing.rt needs of `run_upon`.
use Rattle.std.proofs.Common.{List, subst}
use Rattle.git_objects.specs.Paths.{Bytes}
use Rattle.memory_devices.specs.Turns.{no_fault}
use Rattle.proj_io.specs.Stops.{OnlyAdds}
use Rattle.proj_io.specs.Views.{keeper_view}
use Rattle.proj_words.specs.Views.{command_of}
use Rattle.state_items.specs.Items.{Held}
use Rattle.proj_commands.proofs.CommandsMade.{slice-input, unjudged-command}
use Rattle.proj_commands.proofs.Forming.{used-not}
use Rattle.proj_commands.proofs.Refusing.{own-before, own-counts}
use Rattle.proj_commands.proofs.performing.run_upon.Goals as goal
use Rattle.proj_commands.specs.Makes.{IsCommandMade}

pub returns-in-Err-clause-made : goal.returns-in-Err-clause-made
returns-in-Err-clause-made g c = λ (items : List Bytes) (h : Held) w.
    let seen = keeper_view g.K.Keeper.items g.K.Keeper.number g.K.Keeper.faults c.args.store.now in
    unjudged-command items h c.args.state.now w (command_of c.args.asked) c.args.input.now c.in-Err.outcome c.in-Err.ensures.err seen _ _

pub returns-in-Err-clause-early : goal.returns-in-Err-clause-early
returns-in-Err-clause-early g c = own-before c.in-Err.outcome c.in-Err.ensures.err.own

pub returns-in-Err-clause-used : goal.returns-in-Err-clause-used
returns-in-Err-clause-used g c = used-not _ _ _ _ c.requires.open.0 (own-counts _ c.in-Err.outcome c.in-Err.ensures.err.own)

pub perform-requires-clause-judged : goal.perform-requires-clause-judged
perform-requires-clause-judged g c = (command_of c.args.asked, c.in-Ok.ensures.ok)

pub returns-in-Ok-clause-made : goal.returns-in-Ok-clause-made
returns-in-Ok-clause-made g c = λ (items : List Bytes) (h : Held) w.
    let seen = keeper_view g.K.Keeper.items g.K.Keeper.number g.K.Keeper.faults in
    let at = g.K.Keeper.moment in
    let since = g.K.Keeper.left_since in
    let then = c.args.store.now in
    let now = c.perform.new.store in
    let i = c.args.input.now in
    let m = c.perform.ensures.made (command_of c.args.asked) items h c.in-Ok.ensures.ok w in
    subst (λ (all : Bytes). IsCommandMade (command_of c.args.asked) all items h c.args.state.now c.perform.new.state (seen then) (seen now) (OnlyAdds (at then) (at now) (since then) (since now)) c.perform.result)
    (slice-input c.new.result m.all i c.new.ensures.told m.told) m.says

pub returns-in-Ok-clause-early : goal.returns-in-Ok-clause-early
returns-in-Ok-clause-early g c = (c.perform.ensures.early, no_fault c.perform.ensures.read)
