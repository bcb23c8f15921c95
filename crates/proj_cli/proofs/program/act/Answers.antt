-- Proves what src/program.rt needs of `act`.
use Rattle.std.proofs.Common.{List, Err, IsErr, refl, sym, ap, subst, rules}
use Rattle.git_objects.specs.Paths.{Bytes}
use Rattle.proj_io.specs.Stops.{OnlyAdds}
use Rattle.proj_io.specs.Views.{source_view, sink_view, keeper_view}
use Rattle.repo_ground.proofs.Stopping.{adds_none}
use Rattle.proj_words.specs.Views.{command_of}
use Rattle.proj_words.specs.Words.{Command}
use Rattle.proj_cli.specs.Calls.{devices}
use Rattle.proj_commands.specs.Cases.{verdict}
use Rattle.proj_cli.specs.Runs.{IsAnswer, MayLeave}
use Rattle.proj_cli.proofs.Delivering.{after, before}
use Rattle.proj_cli.proofs.Dispatching.{batch-adds, one-answer, trial-answer}
use Rattle.proj_cli.proofs.Fronts.{grows-self}
use Rattle.proj_cli.proofs.Joining.{concluded}
use Rattle.proj_commands.proofs.JudgedCases.{judged-whole}
use Rattle.proj_commands.specs.Inputs.{ForInput}
use Rattle.proj_commands.proofs.InputsRead.{for-any}
use Rattle.proj_cli.proofs.Making.{unjudged-made}
use Rattle.proj_cli.proofs.program.act.Goals as goal
use Rattle.fast_import.proofs.Stopping.{within_none}

-- ---- forms that are made of several commands

pub returns-in-Batch-clause-answer : goal.returns-in-Batch-clause-answer
returns-in-Batch-clause-answer g c =
    let seen = devices g.S.Source.left g.S.Source.faults g.O.Sink.written g.O.Sink.faults g.O.Sink.refusals g.K.Keeper.items g.K.Keeper.number g.K.Keeper.faults in
    subst (λ (a : Command). IsAnswer a (seen c.args.input.now c.args.out.now c.args.store.now) (seen c.batch.new.input c.batch.new.out c.batch.new.store) c.batch.result) (sym (ap command_of c.in-Batch.is))
    c.batch.ensures.answer

pub returns-in-Batch-clause-adds : goal.returns-in-Batch-clause-adds
returns-in-Batch-clause-adds g c = λ (items : List Bytes) told.
    let at = g.K.Keeper.moment in
    let since = g.K.Keeper.left_since in
    let then = c.args.store.now in
    let now = c.batch.new.store in
    subst (λ (a : Command). ForInput (g.S.Source.left c.args.input.now) (λ all. OnlyAdds (at then) (at now) (since then) (since now) (MayLeave a items all))) (sym (ap command_of c.in-Batch.is))
    (batch-adds (g.S.Source.left c.args.input.now) items (at then) (at now) (since then) (since now) (c.batch.ensures.adds items told))

pub returns-in-Batch-clause-fronts : goal.returns-in-Batch-clause-fronts
returns-in-Batch-clause-fronts g c = c.batch.ensures.fronts

pub returns-in-Trial-clause-answer : goal.returns-in-Trial-clause-answer
returns-in-Trial-clause-answer g c =
    let seen = devices g.S.Source.left g.S.Source.faults g.O.Sink.written g.O.Sink.faults g.O.Sink.refusals g.K.Keeper.items g.K.Keeper.number g.K.Keeper.faults in
    let shown = sink_view g.O.Sink.written g.O.Sink.faults g.O.Sink.refusals in
    let does = c.conclude.ensures in
    subst (λ (a : Command). IsAnswer a (seen c.args.input.now c.args.out.now c.args.store.now) (seen c.args.input.now c.conclude.new.out c.args.store.now) c.conclude.result) (sym (ap command_of c.in-Trial.is))
    (trial-answer c.in-Trial.count (source_view g.S.Source.left g.S.Source.faults c.args.input.now) (shown c.args.out.now) (shown c.conclude.new.out)
    (keeper_view g.K.Keeper.items g.K.Keeper.number g.K.Keeper.faults c.args.store.now) c.trial.result c.conclude.result c.trial.ensures.made c.trial.ensures.early does.concluded (λ e. ap shown (does.same e)))

pub returns-in-Trial-clause-adds : goal.returns-in-Trial-clause-adds
returns-in-Trial-clause-adds g c = λ (items : List Bytes) told.
    let at = g.K.Keeper.moment c.args.store.now in
    let since = g.K.Keeper.left_since c.args.store.now in
    for-any (g.S.Source.left c.args.input.now) (λ all. OnlyAdds at at since since (MayLeave (command_of c.args.asked) items all)) (λ all. adds_none at since (MayLeave (command_of c.args.asked) items all))

pub returns-in-Trial-clause-fronts : goal.returns-in-Trial-clause-fronts
returns-in-Trial-clause-fronts g c = λ (items : List Bytes) told apart. let k = c.args.store.now in grows-self items (g.K.Keeper.items k) told (g.K.Keeper.moment k) (g.K.Keeper.left_since k)

-- ---- a command that is refused by judging

pub returns-in-Err-clause-answer : goal.returns-in-Err-clause-answer
returns-in-Err-clause-answer g c =
    let i = source_view g.S.Source.left g.S.Source.faults c.args.input.now in
    let o = sink_view g.O.Sink.written g.O.Sink.faults g.O.Sink.refusals c.args.out.now in
    let k = keeper_view g.K.Keeper.items g.K.Keeper.number g.K.Keeper.faults c.args.store.now in
    let asked = command_of c.args.asked in
    let e = c.in-Err.outcome in
    one-answer asked (before i i o o k k) (after i i o o k k) e (search rules)
    (concluded c.recall_law.ensures asked i i o o k k (OnlyAdds (g.K.Keeper.moment c.args.store.now) (g.K.Keeper.moment c.args.store.now) (g.K.Keeper.left_since c.args.store.now) (g.K.Keeper.left_since c.args.store.now)) (Err e) e
    (unjudged-made i k (g.K.Keeper.moment c.args.store.now) (g.K.Keeper.left_since c.args.store.now) asked e c.in-Err.ensures.err) refl (λ e. refl))

pub returns-in-Err-clause-adds : goal.returns-in-Err-clause-adds
returns-in-Err-clause-adds g c = λ (items : List Bytes) told.
    let at = g.K.Keeper.moment c.args.store.now in
    let since = g.K.Keeper.left_since c.args.store.now in
    for-any (g.S.Source.left c.args.input.now) (λ all. OnlyAdds at at since since (MayLeave (command_of c.args.asked) items all)) (λ all. adds_none at since (MayLeave (command_of c.args.asked) items all))

pub returns-in-Err-clause-fronts : goal.returns-in-Err-clause-fronts
returns-in-Err-clause-fronts g c = λ (items : List Bytes) told apart. let k = c.args.store.now in grows-self items (g.K.Keeper.items k) told (g.K.Keeper.moment k) (g.K.Keeper.left_since k)

-- ---- a command that is performed

pub returns-in-Ok : goal.returns-in-Ok
returns-in-Ok g c =
    let asked = command_of c.args.asked in
    let w = c.in-Ok.ensures.ok in
    let does = c.perform_judged.ensures in
    record {
      answer = does.answer asked w;
      adds = λ (items : List Bytes) told. does.adds asked items w told;
      fronts = does.fronts;
      within = does.within;
      unread = does.unread asked w;
      unloaded = does.unloaded asked w;
      unjudged = λ one refuses. absurd (judged-whole asked c.in-Ok.judged w refuses);
      idle = λ unknown. absurd (judged-whole asked c.in-Ok.judged w (subst (λ (a : Command). IsErr (verdict a)) (sym unknown) refl));
      is_open = does.is_open;
    }

-- ---- how much is taken

pub returns-in-Trial-clause-within : goal.returns-in-Trial-clause-within
returns-in-Trial-clause-within g c = within_none (g.S.Source.left c.args.input.now)

pub returns-in-Err-clause-within : goal.returns-in-Err-clause-within
returns-in-Err-clause-within g c = within_none (g.S.Source.left c.args.input.now)

pub returns-in-Batch-clause-within : goal.returns-in-Batch-clause-within
returns-in-Batch-clause-within g c = c.batch.ensures.answer.taken
