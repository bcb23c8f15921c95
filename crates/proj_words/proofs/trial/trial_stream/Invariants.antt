use Rattle.std.proofs.Common.{◌≡◌, ◌-◌, ◌++◌}
use Rattle.proj_words.specs.TrialTexts.{trial_commits, trial_stream}
use Rattle.proj_words.proofs.trial.trial_stream.Given as goal

abbrev pub invariant-loop-i : goal.invariant-loop-i
invariant-loop-i l = l.text.items ++ trial_commits (l.n - l.i) l.i ≡ trial_stream l.n
