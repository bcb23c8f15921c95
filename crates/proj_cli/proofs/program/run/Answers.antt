-- Proves what src/program.rt needs of `run`.
use Rattle.std.proofs.Common.{◌≡◌, ◌∙◌, true, IsErr, List, ap, subst, map, string_bytes}
use Rattle.git_objects.specs.Paths.{Bytes}
use Rattle.proj_io.specs.Stops.{OnlyAdds}
use Rattle.proj_words.specs.Words.{command, loads, reads}
use Rattle.proj_cli.specs.Calls.{devices}
use Rattle.proj_commands.specs.Cases.{is_one, verdict}
use Rattle.proj_commands.specs.Inputs.{ForInput}
use Rattle.proj_cli.specs.Runs.{IsAnswer, MayLeave}
use Rattle.proj_cli.proofs.Dispatching.{complete, finished}
use Rattle.proj_cli.proofs.Fronts.{grows-began}
use Rattle.proj_cli.proofs.Lengthening.{usage-stays, no-fault, since-began, still-there}
use Rattle.proj_cli.proofs.program.run.Goals as goal

pub returns-clause-answer : goal.returns-clause-answer
returns-clause-answer g c =
    let seen = devices g.S.Source.left g.S.Source.faults g.O.Sink.written g.O.Sink.faults g.O.Sink.refusals g.K.Keeper.items g.K.Keeper.number g.K.Keeper.faults in
    finished (command (map (λ word. string_bytes word) c.args.words.now)) (seen c.args.input.now c.args.out.now c.args.store.now) (seen c.act-outcome.new.input c.act-outcome.new.out c.act-outcome.new.store)
    c.act-outcome.result c.finish.result c.finish.ensures.outcome
    (subst (λ asked. IsAnswer asked (seen c.args.input.now c.args.out.now c.args.store.now) (seen c.act-outcome.new.input c.act-outcome.new.out c.act-outcome.new.store) c.act-outcome.result)
    c.read_command-asked.ensures.command c.act-outcome.ensures.answer)

pub returns-clause-complete : goal.returns-clause-complete
returns-clause-complete g c = complete (command (map (λ word. string_bytes word) c.args.words.now)) _ _ c.finish.result (returns-clause-answer g c)

pub returns-clause-untouched : goal.returns-clause-untouched
returns-clause-untouched g c =
    let asked = c.read_command-asked.ensures.command in
    let does = c.act-outcome.ensures in
    (λ no. does.unread (ap reads asked ∙ no), λ no. does.unloaded (ap loads asked ∙ no))

pub returns-clause-unjudged : goal.returns-clause-unjudged
returns-clause-unjudged g c =
    subst (λ asked. is_one asked ≡ true → IsErr (verdict asked) → (c.act-outcome.new.input ≡ c.args.input.now) × (c.act-outcome.new.store ≡ c.args.store.now))
    c.read_command-asked.ensures.command c.act-outcome.ensures.unjudged

pub returns-clause-idle : goal.returns-clause-idle
returns-clause-idle g c = λ unknown.
    let idle = c.act-outcome.ensures.idle (c.read_command-asked.ensures.command ∙ unknown) in
    (idle.0, usage-stays c.act-outcome.result c.finish.result c.finish.ensures.outcome idle.1)

pub returns-clause-stops : goal.returns-clause-stops
returns-clause-stops g c = λ (items : List Bytes) told.
    let adds =
    subst (λ asked. ForInput (g.S.Source.left c.args.input.now) (λ all. OnlyAdds (g.K.Keeper.moment c.args.store.now) (g.K.Keeper.moment c.act-outcome.new.store) (g.K.Keeper.left_since c.args.store.now) (g.K.Keeper.left_since c.act-outcome.new.store) (MayLeave asked items all)))
    c.read_command-asked.ensures.command (c.act-outcome.ensures.adds items told) in
    since-began (g.S.Source.left c.args.input.now) (command (map (λ word. string_bytes word) c.args.words.now)) items _ _ _ _ adds
    (λ list left. still-there (g.K.Keeper.items c.args.store.now) items list told (g.met.K.Keeper.settled c.args.store.now list c.requires left))

pub returns-clause-fronts : goal.returns-clause-fronts
returns-clause-fronts g c = λ (items : List Bytes) told apart.
    grows-began items _ _ _ _ _ (c.act-outcome.ensures.fronts items told (no-fault c.act-outcome.result c.finish.result c.finish.ensures.outcome apart))
    (λ list left. still-there (g.K.Keeper.items c.args.store.now) items list told (g.met.K.Keeper.settled c.args.store.now list c.requires left))

pub returns-clause-settled : goal.returns-clause-settled
returns-clause-settled g c = λ no_store.
    let may = c.act-outcome.ensures.is_open (no-fault c.act-outcome.result c.finish.result c.finish.ensures.outcome no_store) in
    (may, λ (all : List Bytes) told list left. still-there (g.K.Keeper.items c.act-outcome.new.store) all list told (g.met.K.Keeper.settled c.act-outcome.new.store list may left))
