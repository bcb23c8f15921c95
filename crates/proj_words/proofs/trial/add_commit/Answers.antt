use Rattle.std.proofs.Common.{◌∙◌}
use Rattle.proj_words.proofs.Commits.{one_commit}
use Rattle.proj_words.proofs.trial.add_commit.Goals as goal

pub returns : goal.returns
returns c =
    one_commit c.args.i _ _ _ _ _ _ (c.deref.ensures.value ∙ c.in_ok-message.ensures)
    (c.deref-2.ensures.value ∙ c.in_ok-path.ensures) (c.deref-3.ensures.value ∙ c.in_ok-content.ensures)
    c.in_ok-add_head.ensures c.in_ok-add_file.ensures
