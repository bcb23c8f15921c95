use Rattle.std.proofs.Common.{◌∙◌}
use Rattle.git_objects.specs.declared.kind.Kind.TheVariants.{Commit}
use Rattle.object_store.proofs.Finding.{kind_test}
use Rattle.state_items.proofs.writing.is_commit.Goals as goal

pub returns : goal.returns
returns c = c.eq.ensures ∙ kind_test c.args.object.now.kind Commit
