-- Proves what src/trying.rt needs of `report_tried`.
use Rattle.git_objects.specs.Paths.{Bytes}
use Rattle.proj_cli.specs.Trials.{third_hands}
use Rattle.proj_commands.proofs.NamesGiven.{passed-whole}
use Rattle.proj_cli.proofs.TrialReports.{IsTrialTold, trial-calm, trial-ended, trial-reported, trial-told}
use Rattle.proj_cli.proofs.trying.report_tried.Goals as goal

pub returns-in_err-tried-clause-made : goal.returns-in_err-tried-clause-made
returns-in_err-tried-clause-made c =
    let n = c.args.count in
    trial-reported n c.from_residual.result
    (passed-whole Bytes c.from_residual.result c.in_err-tried.field-0.0 c.from_residual.ensures.1 (IsTrialTold n) (trial-ended n c.in_err-tried.field-0.0 c.in_err-tried.ensures))

pub returns-in_err-tried-clause-early : goal.returns-in_err-tried-clause-early
returns-in_err-tried-clause-early c =
    let n = c.args.count in
    trial-calm n c.from_residual.result
    (passed-whole Bytes c.from_residual.result c.in_err-tried.field-0.0 c.from_residual.ensures.1 (IsTrialTold n) (trial-ended n c.in_err-tried.field-0.0 c.in_err-tried.ensures))

pub trial_report-requires : goal.trial_report-requires
trial_report-requires c = let w = c.in_ok-tried.ensures in (w.0, w.1, third_hands c.args.count, w.3)

pub returns-clause-made : goal.returns-clause-made
returns-clause-made c =
    let n = c.args.count in
    trial-reported n c.trial_report.result (trial-told n c.tried.new.state tt c.trial_report.result c.in_ok-tried.ensures c.trial_report.ensures)

pub returns-clause-early : goal.returns-clause-early
returns-clause-early c =
    let n = c.args.count in
    trial-calm n c.trial_report.result (trial-told n c.tried.new.state tt c.trial_report.result c.in_ok-tried.ensures c.trial_report.ensures)
