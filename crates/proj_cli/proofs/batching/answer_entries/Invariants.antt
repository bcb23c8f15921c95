use Rattle.std.proofs.Common.{◌≡◌, ◌↔◌, List, Some, map, take}
use Rattle.git_objects.specs.Paths.{Bytes}
use Rattle.proj_io.specs.Stops.{OnlyAdds}
use Rattle.proj_io.specs.Views.{keeper_view, sink_view}
use Rattle.proj_words.specs.Views.{entry_value}
use Rattle.proj_cli.specs.Stopped.{OnlyGrows}
use Rattle.proj_cli.proofs.BatchesRun.{AreAnswered}
use Rattle.proj_cli.proofs.batching.answer_entries.Given as goal

abbrev pub invariant-loop-entry : goal.invariant-loop-entry
invariant-loop-entry g l =
    let kept = keeper_view g.K.Keeper.items g.K.Keeper.number g.K.Keeper.faults in
    let shown = sink_view g.O.Sink.written g.O.Sink.faults g.O.Sink.refusals in
    let at = g.K.Keeper.moment in
    let since = g.K.Keeper.left_since in
    AreAnswered (map entry_value l.entries) (map entry_value (take l.entry-index l.entries)) l.fn.state l.state (shown l.fn.out) (shown l.out) (kept l.fn.store) (kept l.store)
    (OnlyAdds (at l.fn.store) (at l.store) (since l.fn.store) (since l.store))
    × g.K.Keeper.is_open l.store × (g.K.Keeper.tells l.store ↔ g.K.Keeper.tells l.fn.store)
    × ((items : List Bytes) → g.K.Keeper.items l.fn.store ≡ Some items → OnlyGrows items (g.K.Keeper.items l.store) (OnlyAdds (at l.fn.store) (at l.store) (since l.fn.store) (since l.store)))
