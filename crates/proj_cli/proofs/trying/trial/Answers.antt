-- Proves what src/trying.rt needs of `trial`.
use Rattle.std.proofs.Common.{Err}
use Rattle.proj_words.specs.declared.outcome.Outcome.TheVariants.{OutOfMemory}
use Rattle.proj_cli.proofs.TrialReports.{trial-calm, trial-reported}
use Rattle.proj_cli.proofs.trying.trial.Goals as goal

pub returns-in-Err-clause-made : goal.returns-in-Err-clause-made
returns-in-Err-clause-made c = trial-reported c.args.count (Err OutOfMemory) tt

pub returns-in-Err-clause-early : goal.returns-in-Err-clause-early
returns-in-Err-clause-early c = trial-calm c.args.count (Err OutOfMemory) tt
