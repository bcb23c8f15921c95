-- Proves what src/batching.rt needs of `answer_upon`.
use Rattle.std.proofs.Common.{◌∙◌, List, map, sym}
use Rattle.git_objects.specs.Paths.{Bytes}
use Rattle.proj_io.specs.Stops.{adds_as, adds_on}
use Rattle.proj_io.specs.Views.{SourceView, keeper_view, sink_view}
use Rattle.proj_words.specs.Views.{entry_value}
use Rattle.proj_cli.specs.Batches.{BatchLeaves, IsLeftBy}
use Rattle.proj_cli.specs.Turns.{loading}
use Rattle.proj_cli.proofs.BatchesAnswered.{batch-run, batch-unloaded, leaves-run, loading-whole}
use Rattle.proj_cli.proofs.BatchesRun.{counts-since}
use Rattle.proj_commands.proofs.Forming.{adds-nothing, loaded-state, still-told}
use Rattle.proj_cli.proofs.Fronts.{grows-on, grows-still}
use Rattle.proj_commands.proofs.Refusing.{none-read, none-written, of-counts}
use Rattle.proj_cli.proofs.batching.answer_upon.Goals as goal

pub returns-in-Err-clause-run : goal.returns-in-Err-clause-run
returns-in-Err-clause-run g c = λ (items : List Bytes) (i j : SourceView) told.
    let kept = keeper_view g.K.Keeper.items g.K.Keeper.number g.K.Keeper.faults in
    let shown = sink_view g.O.Sink.written g.O.Sink.faults g.O.Sink.refusals in
    let does = c.in-Err.ensures in
    batch-unloaded items i j (shown c.args.out.now) (kept c.args.store.now) (kept c.load.new.store) (does.kept.number, does.kept.items) (map entry_value c.args.entries.now) c.in-Err.outcome (does.err items told)

pub returns-in-Err-clause-stops : goal.returns-in-Err-clause-stops
returns-in-Err-clause-stops g c = λ (items : List Bytes) told. adds-nothing _ _ _ _ (BatchLeaves items (loading items (map entry_value c.args.entries.now))) c.in-Err.ensures.kept.stops

pub returns-in-Err-clause-fronts : goal.returns-in-Err-clause-fronts
returns-in-Err-clause-fronts g c = λ (items : List Bytes) told apart. let kept = c.in-Err.ensures.kept in grows-still items _ _ told kept.items _ _ _ _ kept.stops

pub returns-in-Err-clause-early : goal.returns-in-Err-clause-early
returns-in-Err-clause-early g c = none-read c.in-Err.outcome c.in-Err.ensures.early

pub returns-in-Err-clause-cause : goal.returns-in-Err-clause-cause
returns-in-Err-clause-cause g c = of-counts _ _ c.in-Err.outcome c.in-Err.ensures.cause

pub returns-in-Err-clause-write : goal.returns-in-Err-clause-write
returns-in-Err-clause-write g c = none-written _ c.in-Err.outcome c.in-Err.ensures.early

pub answer_entries-requires-clause-open : goal.answer_entries-requires-clause-open
answer_entries-requires-clause-open g c = (c.in-Ok.ensures.kept.is_open, c.in-Ok.ensures.ok.counted ∙ sym c.in-Ok.ensures.kept.number)

pub answer_entries-requires-clause-state : goal.answer_entries-requires-clause-state
answer_entries-requires-clause-state g c = let w = c.in-Ok.ensures.ok in (w.items, w.held, record { current = w.current; spells = w.spells; ground = w.ground }, w.only)

pub returns-in-Ok-clause-run : goal.returns-in-Ok-clause-run
returns-in-Ok-clause-run g c = λ (items : List Bytes) (i j : SourceView) told.
    let kept = keeper_view g.K.Keeper.items g.K.Keeper.number g.K.Keeper.faults in
    let shown = sink_view g.O.Sink.written g.O.Sink.faults g.O.Sink.refusals in
    let then = c.args.store.now in
    let mid = c.load.new.store in
    let does = c.in-Ok.ensures in
    let es = map entry_value c.args.entries.now in
    let st = loaded-state items (kept then) (kept mid) (g.K.Keeper.number then) c.in-Ok.state told (does.kept.number, does.kept.items) does.ok in
    batch-run items es i j (shown c.args.out.now) (shown c.answer_entries.new.out) (kept then) (kept mid) (kept c.answer_entries.new.store) (does.kept.number, does.kept.items) c.answer_entries.result (loading items es)
    (loading-whole items es does.ok.held st.current.read)
    (c.answer_entries.ensures.run items does.ok.held i j st does.ok.only (still-told (g.K.Keeper.items then) (g.K.Keeper.items mid) items does.kept.items told))

pub returns-in-Ok-clause-stops : goal.returns-in-Ok-clause-stops
returns-in-Ok-clause-stops g c = λ (items : List Bytes) told.
    let kept = keeper_view g.K.Keeper.items g.K.Keeper.number g.K.Keeper.faults in
    let at = g.K.Keeper.moment in
    let since = g.K.Keeper.left_since in
    let then = c.args.store.now in
    let mid = c.load.new.store in
    let now = c.answer_entries.new.store in
    let does = c.in-Ok.ensures in
    let es = map entry_value c.args.entries.now in
    let kind = BatchLeaves items (loading items es) in
    let st = loaded-state items (kept then) (kept mid) (g.K.Keeper.number then) c.in-Ok.state told (does.kept.number, does.kept.items) does.ok in
    adds_on (at then) (at mid) (at now) (since then) (since mid) (since now) kind (adds-nothing (at then) (at mid) (since then) (since mid) kind does.kept.stops)
    (adds_as (at mid) (at now) (since mid) (since now) (IsLeftBy items es) kind (leaves-run items (loading items es) es (loading-whole items es does.ok.held st.current.read))
    (c.answer_entries.ensures.stops items does.ok.held st does.ok.only (still-told (g.K.Keeper.items then) (g.K.Keeper.items mid) items does.kept.items told)))

pub returns-in-Ok-clause-is_open : goal.returns-in-Ok-clause-is_open
returns-in-Ok-clause-is_open g c = c.answer_entries.ensures.used.is_open

pub returns-in-Ok-clause-cause : goal.returns-in-Ok-clause-cause
returns-in-Ok-clause-cause g c = counts-since _ _ _ _ c.in-Ok.ensures.cause.later c.answer_entries.ensures.used.cause

pub returns-in-Ok-clause-fronts : goal.returns-in-Ok-clause-fronts
returns-in-Ok-clause-fronts g c = λ (items : List Bytes) told apart.
    let kept = c.in-Ok.ensures.kept in
    grows-on items _ _ _ _ _ _ _ _ (grows-still items _ _ told kept.items _ _ _ _ kept.stops) (λ mid there. c.answer_entries.ensures.fronts mid there apart)
