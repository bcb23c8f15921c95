use Rattle.tree_cases.proofs.Edited.{some_tree}
use Rattle.tree_cases.proofs.edits.set.Goals as goal

pub returns : goal.returns
returns c = some_tree c.args.store.now c.set.new.self c.requires.shows.0 _ c.set.result (c.set.ensures c.requires.shows.0 c.requires.shows.1)
