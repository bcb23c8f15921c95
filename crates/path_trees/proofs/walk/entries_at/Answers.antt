use Rattle.path_trees.proofs.Walks.{never_none}
use Rattle.path_trees.proofs.walk.entries_at.Goals as goal

pub unreachable-requires : goal.unreachable-requires
unreachable-requires c = never_none c.args.store.now c.args.name.now.0 c.in-None.ensures.store c.requires c.in-None.ensures.entries
