-- Proves what src/batching.rt needs of `batch`.
use Rattle.std.proofs.Common.{◌≡◌, ◌∙◌, List, Result, Ok, Err, IfSome, map, sym, ap, subst, arith}
use Rattle.git_objects.specs.Paths.{Bytes}
use Rattle.proj_io.specs.Stops.{OnlyAdds}
use Rattle.proj_io.specs.Views.{keeper_view, sink_view, source_view}
use Rattle.repo_ground.proofs.Stopping.{adds_none}
use Rattle.proj_words.specs.Entries.{Entry, entries}
use Rattle.proj_words.specs.Views.{entry_value}
use Rattle.proj_words.specs.declared.entries.Entry.{Entry as ReadEntry}
use Rattle.proj_words.specs.declared.outcome.Outcome.{Outcome}
use Rattle.proj_cli.specs.Batches.{BatchLeaves, IsBatchBy}
use Rattle.proj_cli.proofs.BatchesAnswered.{begun-loads, early-adds, early-answer, entry-own, entry-verdict, unread-run, unspelled-run}
use Rattle.proj_cli.proofs.BatchesRun.{counts-without}
use Rattle.proj_cli.proofs.Delivering.{after, before}
use Rattle.proj_commands.proofs.Forming.{keeps-self}
use Rattle.proj_cli.proofs.Fronts.{grows-self}
use Rattle.proj_commands.proofs.InputsRead.{unread-other, unread-store, unread-write}
use Rattle.proj_cli.proofs.batching.batch.Goals as goal

pub returns-in-Err-clause-answer : goal.returns-in-Err-clause-answer
returns-in-Err-clause-answer g c =
    let read = source_view g.S.Source.left g.S.Source.faults in
    let shown = sink_view g.O.Sink.written g.O.Sink.faults g.O.Sink.refusals in
    let k = keeper_view g.K.Keeper.items g.K.Keeper.number g.K.Keeper.faults c.args.store.now in
    let i = read c.args.input.now in
    let j = read c.read_input.new.input in
    let o = shown c.args.out.now in
    let e = c.in-Err.outcome in
    let does = c.in-Err.ensures in
    early-answer i j o k k e (record { later = does.cause.later; rose = λ f. does.cause.rose (ap Err f) }) (counts-without k.faults k.faults _ (omega arith) (unread-store i.left e does.err)) (unread-write i.left e does.err) (unread-other i.left e does.err) does.taken
    (λ (items : List Bytes) told. unread-run items i j o k k (keeps-self k) e does.err)

pub returns-in-Err-clause-adds : goal.returns-in-Err-clause-adds
returns-in-Err-clause-adds g c = λ (items : List Bytes) told.
    let at = g.K.Keeper.moment c.args.store.now in
    let since = g.K.Keeper.left_since c.args.store.now in
    early-adds (g.S.Source.left c.args.input.now) items at at since since (adds_none at since _)

pub returns-in-Err-read_entries-clause-answer : goal.returns-in-Err-read_entries-clause-answer
returns-in-Err-read_entries-clause-answer g c =
    let read = source_view g.S.Source.left g.S.Source.faults in
    let shown = sink_view g.O.Sink.written g.O.Sink.faults g.O.Sink.refusals in
    let k = keeper_view g.K.Keeper.items g.K.Keeper.number g.K.Keeper.faults c.args.store.now in
    let i = read c.args.input.now in
    let j = read c.read_input.new.input in
    let o = shown c.args.out.now in
    let e = c.in-Err-read_entries.outcome in
    let does = c.in-Err-read_entries.ensures in
    let own = entry-own e does.cause in
    early-answer i j o k k e (counts-without i.faults j.faults _ c.in-Ok.ensures.cause.later own.0) (counts-without k.faults k.faults _ (omega arith) own.2) own.1 (entry-verdict e does.cause) c.in-Ok.ensures.taken
    (λ (items : List Bytes) told. unspelled-run items i j o k k (keeps-self k) c.bytes.result.now e (subst (λ (b : Bytes). IfSome i.left (λ l. b ≡ l)) (sym c.bytes.ensures) c.in-Ok.ensures.ok) does.value)

pub returns-in-Err-read_entries-clause-adds : goal.returns-in-Err-read_entries-clause-adds
returns-in-Err-read_entries-clause-adds g c = λ (items : List Bytes) told.
    let at = g.K.Keeper.moment c.args.store.now in
    let since = g.K.Keeper.left_since c.args.store.now in
    early-adds (g.S.Source.left c.args.input.now) items at at since since (adds_none at since _)

pub returns-clause-answer : goal.returns-clause-answer
returns-clause-answer g c =
    let read = source_view g.S.Source.left g.S.Source.faults in
    let shown = sink_view g.O.Sink.written g.O.Sink.faults g.O.Sink.refusals in
    let kept = keeper_view g.K.Keeper.items g.K.Keeper.number g.K.Keeper.faults in
    let i = read c.args.input.now in
    let j = read c.read_input.new.input in
    let o = shown c.args.out.now in
    let q = shown c.answer_upon.new.out in
    let k = kept c.args.store.now in
    let l = kept c.answer_upon.new.store in
    let does = c.answer_upon.ensures in
    let b = c.bytes.result.now in
    let spelled : entries b ≡ Ok (map entry_value c.deref.result.now) =
    c.in-Ok-read_entries.ensures.value ∙ ap (λ (xs : List ReadEntry). Ok (map entry_value xs)) (sym c.deref.ensures.value) in
    record {
      judged = does.other;
      taken = c.in-Ok.ensures.taken;
      cause = record { read = counts-without i.faults j.faults _ c.in-Ok.ensures.cause.later does.early; write = does.write; keep = does.cause; memory = does.memory };
      run = λ (items : List Bytes) told. record {
        input = b;
        told = subst (λ (x : Bytes). IfSome i.left (λ l. x ≡ l)) (sym c.bytes.ensures) c.in-Ok.ensures.ok;
        run =
            subst (λ (r : Result (List Entry) Outcome). IsBatchBy items r (before i j o q k l) (after i j o q k l) c.answer_upon.result) (sym (begun-loads items b (map entry_value c.deref.result.now) spelled))
            (does.run items i j told);
      };
    }

pub returns-clause-adds : goal.returns-clause-adds
returns-clause-adds g c = λ (items : List Bytes) told.
    let at = g.K.Keeper.moment in
    let since = g.K.Keeper.left_since in
    let then = c.args.store.now in
    let now = c.answer_upon.new.store in
    let b = c.bytes.result.now in
    let left = g.S.Source.left c.args.input.now in
    let spelled : entries b ≡ Ok (map entry_value c.deref.result.now) =
    c.in-Ok-read_entries.ensures.value ∙ ap (λ (xs : List ReadEntry). Ok (map entry_value xs)) (sym c.deref.ensures.value) in
    record {
      all = b;
      told = subst (λ (x : Bytes). IfSome left (λ l. x ≡ l)) (sym c.bytes.ensures) c.in-Ok.ensures.ok;
      says =
          subst (λ (r : Result (List Entry) Outcome). OnlyAdds (at then) (at now) (since then) (since now) (BatchLeaves items r)) (sym (begun-loads items b (map entry_value c.deref.result.now) spelled))
          (c.answer_upon.ensures.stops items told);
    }

pub returns-in-Err-clause-fronts : goal.returns-in-Err-clause-fronts
returns-in-Err-clause-fronts g c = λ (items : List Bytes) told apart. let k = c.args.store.now in grows-self items (g.K.Keeper.items k) told (g.K.Keeper.moment k) (g.K.Keeper.left_since k)

pub returns-in-Err-read_entries-clause-fronts : goal.returns-in-Err-read_entries-clause-fronts
returns-in-Err-read_entries-clause-fronts g c = λ (items : List Bytes) told apart. let k = c.args.store.now in grows-self items (g.K.Keeper.items k) told (g.K.Keeper.moment k) (g.K.Keeper.left_since k)
