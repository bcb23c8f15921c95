use Rattle.tree_cases.proofs.Edited.{some_tree}
use Rattle.tree_cases.proofs.edits.copied.Goals as goal

pub returns : goal.returns
returns c = some_tree c.args.store.now c.copy.new.self c.requires.0 _ c.copy.result (c.copy.ensures c.requires.0 c.requires.1)
