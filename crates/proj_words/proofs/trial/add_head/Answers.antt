use Rattle.proj_words.proofs.Commits.{head_joined}
use Rattle.proj_words.proofs.trial.add_head.Goals as goal

pub returns : goal.returns
returns c =
    head_joined _ _ _ _ _ _ _ _ _ c.in_ok-extend_from_slice.ensures.items c.in_ok-add_number.ensures c.in_ok-extend_from_slice-2.ensures.items
    c.in_ok-add_sized.ensures
