use Rattle.git_objects.specs.Trees.{remove}
use Rattle.tree_cases.proofs.edits.removed.Goals as goal

pub returns-in-Ok : goal.returns-in-Ok
returns-in-Ok c = (remove c.requires.0 c.args.path.now, c.in-Ok.ensures.ok c.requires.0 c.requires.1)

pub returns-in-Err : goal.returns-in-Err
returns-in-Err c = (c.requires.0, c.in-Err.ensures.err c.requires.0 c.requires.1)
