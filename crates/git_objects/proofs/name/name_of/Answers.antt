use Rattle.std.proofs.Common.{[], ◌++◌, ◌∙◌}
use Rattle.sha1.specs.Sha1.{sha1}
use Rattle.git_objects.specs.Names.{name}
use Rattle.git_objects.proofs.name.name_of.Goals as goal

pub returns : goal.returns
unfolding name
returns c =
    let a = c.update.ensures [] c.new-hasher.ensures in
    let b = c.update-2.ensures _ a in
    let header = c.split_at.ensures.back ∙ c.put_header-start.ensures.written in
    c.finalize.ensures _ b ∙ (λ i. sha1 (header i ++ c.args.body.now))
