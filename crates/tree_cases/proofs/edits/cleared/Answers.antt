use Rattle.std.proofs.Common.{[]}
use Rattle.tree_cases.proofs.edits.cleared.Goals as goal

pub returns : goal.returns
returns c = ([], c.clear.ensures c.args.store.now c.requires.1.store)
