-- Proves what src/batching.rt needs of `answer_entries`.
use Rattle.std.proofs.Common.{◌≡◌, ◌∙◌, ℕ, List, map, take, sym, ap, subst, add-one}
use Rattle.git_objects.specs.Paths.{Bytes}
use Rattle.proj_io.specs.Stops.{OnlyAdds}
use Rattle.proj_io.specs.Views.{SourceView, keeper_view, sink_view}
use Rattle.proj_words.specs.Entries.{Entry}
use Rattle.proj_words.specs.Views.{entry_value}
use Rattle.proj_words.specs.declared.outcome.Outcome.TheVariants.{Done, StoreFault}
use Rattle.state_items.specs.Items.{Held}
use Rattle.proj_cli.proofs.BatchesRun.{AreAnswered, answered-early, answered-last, answered-more, answered-other, answered-stops, behind-some, counts-since, counts-without, entries-at, entries-more, none-answered, run-done}
use Rattle.proj_cli.proofs.Fronts.{grows-on, grows-self}
use Rattle.proj_cli.proofs.batching.answer_entries.Goals as goal
use Rattle.proj_commands.proofs.InputsRead.{take-all}

pub loop-entry-init : goal.loop-entry-init
loop-entry-init g c =
    let kept = keeper_view g.K.Keeper.items g.K.Keeper.number g.K.Keeper.faults in
    let shown = sink_view g.O.Sink.written g.O.Sink.faults g.O.Sink.refusals in
    let then = c.args.store.now in (
      none-answered (map entry_value c.args.entries.now) c.args.state.now (shown c.args.out.now) (kept then) (g.K.Keeper.moment then) (g.K.Keeper.left_since then) c.requires.open.1,
      c.requires.open.0,
      (λ x. x, λ x. x),
      (λ (items : List Bytes) told. grows-self items (g.K.Keeper.items then) told (g.K.Keeper.moment then) (g.K.Keeper.left_since then)),
    )

pub answer_entry-requires-clause-open : goal.answer_entry-requires-clause-open
answer_entry-requires-clause-open g c = (c.loop-entry.invariant.1, c.loop-entry.invariant.0.number)

pub answer_entry-requires-clause-state : goal.answer_entry-requires-clause-state
answer_entry-requires-clause-state g c = behind-some _ _ _ _ _ _ _ _ _ c.loop-entry.invariant.0 c.requires.state

pub returns-in_default-clause-run : goal.returns-in_default-clause-run
returns-in_default-clause-run g c = λ (items : List Bytes) (h : Held) (i j : SourceView) state only told.
    let all = c.args.entries.now in
    answered-last _ _ _ _ (entries-at entry_value all c.loop-entry.entry-index _ c.loop-entry-test.true) _ _ _ _ _ _ _ _ _ _ _ _ _ _ _ c.loop-entry.invariant.0 c.answer_entry.result c.answer_entry.ensures.answered
    c.answer_entry.ensures.stops c.in_default.not-Done items h i j state only

pub returns-in_default-clause-stops : goal.returns-in_default-clause-stops
returns-in_default-clause-stops g c = λ (items : List Bytes) (h : Held) state only told.
    let all = c.args.entries.now in
    answered-stops _ _ _ _ (entries-at entry_value all c.loop-entry.entry-index _ c.loop-entry-test.true) _ _ _ _ _ _ _ _ _ _ _ _ _ _ _ c.loop-entry.invariant.0 c.answer_entry.result c.answer_entry.ensures.answered
    c.answer_entry.ensures.stops items h state only told

pub returns-in_default-clause-fronts : goal.returns-in_default-clause-fronts
returns-in_default-clause-fronts g c = λ (items : List Bytes) told apart.
    grows-on items _ _ _ _ _ _ _ _ (c.loop-entry.invariant.3 items told) (λ mid there. c.answer_entry.ensures.fronts mid there apart)

pub returns-in_default-clause-early : goal.returns-in_default-clause-early
returns-in_default-clause-early g c =
    let all = c.args.entries.now in
    answered-early _ _ _ _ (entries-at entry_value all c.loop-entry.entry-index _ c.loop-entry-test.true) _ _ _ _ _ _ _ _ _ _ _ _ _ _ _ c.loop-entry.invariant.0 c.answer_entry.result c.answer_entry.ensures.answered
    c.answer_entry.ensures.stops c.requires.state

pub returns-in_default-clause-other : goal.returns-in_default-clause-other
returns-in_default-clause-other g c =
    let all = c.args.entries.now in
    answered-other _ _ _ _ (entries-at entry_value all c.loop-entry.entry-index _ c.loop-entry-test.true) _ _ _ _ _ _ _ _ _ _ _ _ _ _ _ c.loop-entry.invariant.0 c.answer_entry.result c.answer_entry.ensures.answered
    c.answer_entry.ensures.stops c.requires.state

pub returns-in_default-clause-used : goal.returns-in_default-clause-used
returns-in_default-clause-used g c =
    let was = c.loop-entry.invariant.2 in
    let used = c.answer_entry.ensures.used in
    record {
      is_open = used.is_open;
      told = (λ x. was.0 (used.told.0 x), λ x. used.told.1 (was.1 x));
      cause = counts-since _ _ _ _ c.loop-entry.invariant.0.failures used.cause;
    }

pub returns-in_default-clause-write : goal.returns-in_default-clause-write
returns-in_default-clause-write g c = counts-since _ _ _ _ c.loop-entry.invariant.0.faults c.answer_entry.ensures.write

pub loop-entry-preserved : goal.loop-entry-preserved
loop-entry-preserved g c =
    let kept = keeper_view g.K.Keeper.items g.K.Keeper.number g.K.Keeper.faults in
    let shown = sink_view g.O.Sink.written g.O.Sink.faults g.O.Sink.refusals in
    let at = g.K.Keeper.moment in
    let since = g.K.Keeper.left_since in
    let then = c.args.store.now in
    let now = c.answer_entry.new.store in
    let all = c.args.entries.now in
    let k = c.loop-entry.entry-index in
    let does = c.answer_entry.ensures in
    let was = c.loop-entry.invariant in
    let lt = c.loop-entry-test.true in (
      subst
          (λ (es : List Entry). AreAnswered (map entry_value all) es c.args.state.now c.answer_entry.new.state (shown c.args.out.now) (shown c.answer_entry.new.out) (kept then) (kept now) (OnlyAdds (at then) (at now) (since then) (since now)))
          (sym (ap (λ (n : ℕ). map entry_value (take n all)) (add-one k) ∙ entries-more entry_value all k _ lt))
          (answered-more _ _ _ _ (entries-at entry_value all k _ lt) _ _ _ _ _ _ _ _ _ _ _ _ _ _ _ was.0 c.answer_entry.result does.answered does.stops c.in-Done.is (does.number c.in-Done.is) does.write.later does.memory does.used.cause.later),
      does.used.is_open (λ e. let no : Done ≡ StoreFault = sym c.in-Done.is ∙ e in cc),
      (λ x. was.2.0 (does.used.told.0 x), λ x. does.used.told.1 (was.2.1 x)),
      (λ (items : List Bytes) told. grows-on items _ _ _ _ _ _ _ _ (was.3 items told) (λ mid there. does.fronts mid there (λ e. let no : Done ≡ StoreFault = sym c.in-Done.is ∙ e in cc))),
    )

pub returns-clause-run : goal.returns-clause-run
returns-clause-run g c = λ (items : List Bytes) (h : Held) (i j : SourceView) state only told.
    run-done items _ _ _ i j _ _ _ _ _ (c.loop-entry.invariant.0.underway items h state only) (ap (map entry_value) (take-all c.loop-entry.entry-index c.args.entries.now c.loop-entry-test.false))

pub returns-clause-stops : goal.returns-clause-stops
returns-clause-stops g c = λ (items : List Bytes) (h : Held) state only told. (c.loop-entry.invariant.0.underway items h state only).stops told

pub returns-clause-fronts : goal.returns-clause-fronts
returns-clause-fronts g c = λ (items : List Bytes) told apart. c.loop-entry.invariant.3 items told

pub returns-clause-used : goal.returns-clause-used
returns-clause-used g c = record {
  is_open = λ _. c.loop-entry.invariant.1;
  told = c.loop-entry.invariant.2;
  cause = counts-without _ _ _ c.loop-entry.invariant.0.failures (λ e. cc);
}

pub returns-clause-write : goal.returns-clause-write
returns-clause-write g c = counts-without _ _ _ c.loop-entry.invariant.0.faults (λ e. cc)
