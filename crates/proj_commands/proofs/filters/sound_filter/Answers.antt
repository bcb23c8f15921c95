-- Proves what src/filters.rt needs of `sound_filter`.
use Rattle.std.proofs.Common.{◌≡◌, ◌⊎◌, Err}
use Rattle.filter_text.specs.Shapes.{shape}
use Rattle.filter_apply.proofs.Handing.{err_told}
use Rattle.proj_words.specs.Faults.{route_outcome}
use Rattle.proj_words.specs.declared.outcome.Outcome.TheVariants.{OutOfMemory}
use Rattle.proj_commands.specs.Filters.{sound}
use Rattle.proj_commands.proofs.FilterFaults.{faulty}
use Rattle.proj_commands.proofs.filters.sound_filter.Goals as goal

pub returns-in_err-check-clause-err : goal.returns-in_err-check-clause-err
returns-in_err-check-clause-err c =
    let fault = c.in_err-check.field-0.0 in
    let read = c.in_ok-filter.ensures in
    err_told (λ e. (e ≡ OutOfMemory) ⊎ (sound c.args.text.now ≡ Err e)) c.from_residual-in_err-check.result (route_outcome fault) c.from_residual-in_err-check.ensures.1
    (faulty c.args.text.now (shape c.in_ok-filter.filter) fault read.paths read.read c.in_err-check.ensures.fault)
