use Rattle.std.proofs.Common.{ap, ◌∙◌}
use Rattle.std.specs.FinMap.{find}
use Rattle.git_objects.specs.Refs.{bytes_cmp}
use Rattle.fast_import.specs.Replaying.{Replaying}
use Rattle.fast_import.proofs.Resolving.{branch-is}
use Rattle.fast_import.proofs.replay.Replay.branch.Goals as goal

pub returns : goal.returns
returns c = λ S r h. c.get.ensures ∙ ap (λ (v : Replaying). find bytes_cmp c.args.refname.now v.branches) c.self.view_is ∙ branch-is S c.args.self.now r h c.args.refname.now
