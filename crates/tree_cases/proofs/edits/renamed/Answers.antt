use Rattle.tree_cases.proofs.Edited.{some_tree}
use Rattle.tree_cases.proofs.edits.renamed.Goals as goal

pub returns : goal.returns
returns g c = some_tree c.args.store.now c.rename.new.self c.requires.shows.0 _ c.rename.result (c.rename.ensures.edit c.requires.shows.0 c.requires.shows.1)
