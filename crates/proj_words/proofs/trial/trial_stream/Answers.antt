use Rattle.std.proofs.Common.{◌++◌, ap, ◌∙◌, arith}
use Rattle.proj_words.specs.TrialTexts.{trial_commit}
use Rattle.proj_words.proofs.Commits.{next_commit}
use Rattle.proj_words.proofs.trial.trial_stream.Goals as goal

pub loop-i-preserved : goal.loop-i-preserved
loop-i-preserved c =
    next_commit c.loop-i.text.items c.add_commit.new.text.items c.args.n c.loop-i.i (omega arith)
    (c.in_ok-add_commit.ensures ∙ ap (λ k. c.loop-i.text.items ++ trial_commit k) c.from.ensures)
    ∙ c.loop-i.invariant
