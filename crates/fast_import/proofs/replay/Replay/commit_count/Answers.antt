use Rattle.std.proofs.Common.{length, ap, ◌∙◌}
use Rattle.fast_import.specs.Replaying.{Replaying}
use Rattle.fast_import.proofs.Resolving.{count-made}
use Rattle.fast_import.proofs.replay.Replay.commit_count.Goals as goal

pub returns-clause-count : goal.returns-clause-count
returns-clause-count c = λ S r h.
    c.count.ensures.count ∙ ap (λ (v : Replaying). length v.commits) c.self.view_is ∙ count-made S c.args.self.now.commits r.commits h.commits
