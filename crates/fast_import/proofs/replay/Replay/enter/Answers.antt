use Rattle.std.proofs.lemmas.Result.{on_ok_weaker}
use Rattle.fast_import.proofs.Committing.{entered_done}
use Rattle.fast_import.proofs.replay.Replay.enter.Goals as goal

pub returns-in-Ok-set_branch-clause-ok : goal.returns-in-Ok-set_branch-clause-ok
returns-in-Ok-set_branch-clause-ok c =
    on_ok_weaker c.mark.result (λ g S r d h k. entered_done S c.args.self.now c.add_commit.new.self c.set_branch.new.self c.mark.new.self r d c.args.ended h k c.in-Ok.ensures.ok c.in-Ok-set_branch.ensures.ok g) c.mark.ensures.ok
