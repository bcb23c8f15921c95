use Rattle.std.specs.Prelude.{codes}
use Rattle.proj_words.proofs.Commits.{file_joined}
use Rattle.proj_words.proofs.trial.add_file.Goals as goal

pub returns : goal.returns
returns c =
    file_joined c.args.text.now.items (codes "M 100644 inline ") c.args.path.now _ _ _ _ _
    c.in_ok-extend_from_slice.ensures.items c.in_ok-extend_from_slice-2.ensures.items c.in_ok-push.ensures.items
    c.in_ok-add_sized.ensures
