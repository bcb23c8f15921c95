-- Proves what src/batching.rt needs of `answer_entry`.
use Rattle.std.proofs.Common.{List, None, subst}
use Rattle.git_objects.specs.Paths.{Bytes}
use Rattle.proj_io.specs.Stops.{OnlyAdds}
use Rattle.proj_io.specs.Views.{SourceView, keeper_view, sink_view}
use Rattle.proj_words.specs.Views.{entry_value}
use Rattle.proj_words.specs.Words.{Command}
use Rattle.proj_cli.specs.Running.{IsStateBehind}
use Rattle.proj_cli.specs.Turns.{Turn, items_after}
use Rattle.proj_cli.proofs.EntriesAnswered.{entry-replied, number-replied, store-made, store-told, turn-adds}
use Rattle.proj_cli.proofs.Fronts.{command-grows}
use Rattle.proj_cli.proofs.batching.answer_entry.Goals as goal
use Rattle.proj_commands.specs.Makes.{IsCommandMade}

pub run_upon-made-requires-clause-state : goal.run_upon-made-requires-clause-state
run_upon-made-requires-clause-state g c = let w = c.requires.state in (items_after w.0 w.1, w.2.held, w.2.state)

pub returns-clause-answered : goal.returns-clause-answered
returns-clause-answered g c = λ (items : List Bytes) (ts : List Turn) (i j : SourceView) b.
    let kept = keeper_view g.K.Keeper.items g.K.Keeper.number g.K.Keeper.faults in
    let shown = sink_view g.O.Sink.written g.O.Sink.faults g.O.Sink.refusals in
    let at = g.K.Keeper.moment in
    let since = g.K.Keeper.left_since in
    let then = c.args.store.now in
    let now = c.run_upon-made.new.store in
    let adds = OnlyAdds (at then) (at now) (since then) (since now) in
    let e = entry_value c.args.entry in
    entry-replied c.recall_law.ensures items ts e c.args.state.now b i j (shown c.args.out.now) (shown c.reply.new.out) c.run_upon-made.new.state (kept then) (kept now) adds c.reply.result c.run_upon-made.result
    (subst (λ (a : Command). IsCommandMade a e.input (items_after items ts) b.held c.args.state.now c.run_upon-made.new.state (kept then) (kept now) adds c.run_upon-made.result) c.line_command-asked.ensures.command
    (c.run_upon-made.ensures.made (items_after items ts) b.held b.state))
    c.run_upon-made.ensures.early c.reply.ensures.replied

pub returns-clause-stops : goal.returns-clause-stops
returns-clause-stops g c = λ (items : List Bytes) (ts : List Turn) b told.
    let kept = keeper_view g.K.Keeper.items g.K.Keeper.number g.K.Keeper.faults in
    let at = g.K.Keeper.moment in
    let since = g.K.Keeper.left_since in
    let then = c.args.store.now in
    let now = c.run_upon-made.new.store in
    let adds = OnlyAdds (at then) (at now) (since then) (since now) in
    let e = entry_value c.args.entry in
    turn-adds c.recall_law.ensures items ts e c.args.state.now b c.run_upon-made.new.state (kept then) (kept now) (at then) (at now) (since then) (since now) c.run_upon-made.result
    (subst (λ (a : Command). IsCommandMade a e.input (items_after items ts) b.held c.args.state.now c.run_upon-made.new.state (kept then) (kept now) adds c.run_upon-made.result) c.line_command-asked.ensures.command
    (c.run_upon-made.ensures.made (items_after items ts) b.held b.state))
    told

pub returns-clause-number : goal.returns-clause-number
returns-clause-number g c = λ done.
    let kept = keeper_view g.K.Keeper.items g.K.Keeper.number g.K.Keeper.faults in
    let shown = sink_view g.O.Sink.written g.O.Sink.faults g.O.Sink.refusals in
    let at = g.K.Keeper.moment in
    let since = g.K.Keeper.left_since in
    let then = c.args.store.now in
    let now = c.run_upon-made.new.store in
    let adds = OnlyAdds (at then) (at now) (since then) (since now) in
    let e = entry_value c.args.entry in
    let w = c.requires.state in
    let b : IsStateBehind w.0 w.1 c.args.state.now = w.2 in
    let none : SourceView = record { left = None; faults = 0 } in
    number-replied c.recall_law.ensures w.0 w.1 e c.args.state.now b none none (shown c.args.out.now) (shown c.reply.new.out) c.run_upon-made.new.state (kept then) (kept now) adds c.reply.result c.run_upon-made.result
    (subst (λ (a : Command). IsCommandMade a e.input (items_after w.0 w.1) b.held c.args.state.now c.run_upon-made.new.state (kept then) (kept now) adds c.run_upon-made.result) c.line_command-asked.ensures.command
    (c.run_upon-made.ensures.made (items_after w.0 w.1) b.held b.state))
    c.run_upon-made.ensures.early c.reply.ensures.replied done c.requires.open.1

pub returns-clause-used : goal.returns-clause-used
returns-clause-used g c =
    let shown = sink_view g.O.Sink.written g.O.Sink.faults g.O.Sink.refusals in
    let used = c.run_upon-made.ensures.used in
    record {
      is_open = λ apart. used.is_open (λ e. apart (store-told (shown c.args.out.now) (shown c.reply.new.out) c.reply.result c.run_upon-made.result c.reply.ensures.replied e));
      told = used.told;
      cause = record {
        later = used.cause.later;
        rose = λ e. used.cause.rose (store-made (shown c.args.out.now) (shown c.reply.new.out) c.reply.result c.run_upon-made.result c.reply.ensures.replied e);
      };
    }

pub returns-clause-fronts : goal.returns-clause-fronts
returns-clause-fronts g c = λ (items : List Bytes) told apart.
    let kept = keeper_view g.K.Keeper.items g.K.Keeper.number g.K.Keeper.faults in
    let shown = sink_view g.O.Sink.written g.O.Sink.faults g.O.Sink.refusals in
    let at = g.K.Keeper.moment in
    let since = g.K.Keeper.left_since in
    let then = c.args.store.now in
    let now = c.run_upon-made.new.store in
    let w = c.requires.state in
    let b : IsStateBehind w.0 w.1 c.args.state.now = w.2 in
    command-grows _ _ (items_after w.0 w.1) b.held c.args.state.now c.run_upon-made.new.state (kept then) (kept now) (at then) (at now) (since then) (since now) c.run_upon-made.result
    (c.run_upon-made.ensures.made (items_after w.0 w.1) b.held b.state)
    (λ fault. apart (store-told (shown c.args.out.now) (shown c.reply.new.out) c.reply.result c.run_upon-made.result c.reply.ensures.replied fault)) items told
