use Rattle.std.proofs.Common.{[]}
use Rattle.tree_cases.proofs.stages.base.Goals as goal

pub edited-requires-clause-shows : goal.edited-requires-clause-shows
edited-requires-clause-shows c = ([], c.in_ok-stage.ensures c.args.store.now c.store_law.ensures.store)
