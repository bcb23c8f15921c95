-- Proves what src/trying.rt needs of `try_import`.
use Rattle.std.proofs.Common.{◌∙◌, [], sym}
use Rattle.std.proofs.lemmas.Option.{same_Some}
use Rattle.state_items.specs.Items.{nothing}
use Rattle.proj_words.specs.declared.outcome.Outcome.TheVariants.{OutOfMemory, ReadFault, StoreFault}
use Rattle.proj_cli.specs.Trials.{import_hands, import_left}
use Rattle.proj_cli.specs.Trying.{IsLeft}
use Rattle.proj_commands.proofs.NamesGiven.{passed-whole}
use Rattle.proj_cli.proofs.TrialSteps.{never-fault}
use Rattle.proj_cli.proofs.TrialPushes.{empty-tried, import-counted, import-done, import-ended}
use Rattle.proj_cli.proofs.trying.try_import.Goals as goal

pub returns-in_err-stream-clause-left : goal.returns-in_err-stream-clause-left
returns-in_err-stream-clause-left c =
    passed-whole (Unit {0}) c.from_residual.result OutOfMemory c.from_residual.ensures.1 (IsLeft (import_hands c.args.count) (import_left c.args.count) c.args.state.now) tt

pub import-requires-clause-open : goal.import-requires-clause-open
import-requires-clause-open c = (tt, c.requires.empty.number ∙ sym c.requires.number)

pub import-requires-clause-state : goal.import-requires-clause-state
import-requires-clause-state c = ([], nothing, (empty-tried c.args.state.now c.requires.empty).state)

pub returns-in_err-import-clause-left : goal.returns-in_err-import-clause-left
returns-in_err-import-clause-left c =
    let m = c.in_err-import.ensures.made [] nothing (empty-tried c.args.state.now c.requires.empty).state in
    let e = c.in_err-import.field-0.0 in
    passed-whole (Unit {0}) c.from_residual-in_err-import.result e c.from_residual-in_err-import.ensures.1 (IsLeft (import_hands c.args.count) (import_left c.args.count) c.import.new.state)
    (import-ended c.args.count c.args.state.now c.import.new.state c.requires.empty m.0 (m.1 ∙ same_Some _ _ c.new-input.ensures.told ∙ c.deref.ensures.value ∙ c.in_ok-stream.ensures) _ _ m.2 e
    (never-fault e ReadFault c.in_err-import.ensures.read) (never-fault e StoreFault c.in_err-import.ensures.used.cause) m.3)

pub returns-clause-left : goal.returns-clause-left
returns-clause-left c =
    let m = c.in_ok-import.ensures.made [] nothing (empty-tried c.args.state.now c.requires.empty).state in
    import-done c.args.count c.args.state.now c.import.new.state c.requires.empty m.0 (m.1 ∙ same_Some _ _ c.new-input.ensures.told ∙ c.deref.ensures.value ∙ c.in_ok-stream.ensures) _ _ m.2 _ tt m.3

pub returns-clause-number : goal.returns-clause-number
returns-clause-number c =
    let m = c.in_ok-import.ensures.made [] nothing (empty-tried c.args.state.now c.requires.empty).state in
    import-counted c.args.count c.args.state.now c.import.new.state c.requires.empty m.0 (m.1 ∙ same_Some _ _ c.new-input.ensures.told ∙ c.deref.ensures.value ∙ c.in_ok-stream.ensures) _ _ m.2 _
    (c.requires.empty.number ∙ sym c.requires.number) m.3
