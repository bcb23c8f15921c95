use Rattle.path_trees.proofs.Walks.{listed_good}
use Rattle.path_trees.proofs.clash.level_at.Goals as goal

pub new-requires : goal.new-requires
new-requires c = (listed_good c.args.store.now c.args.right.now.0 c.entries_at-2.result c.entries_at.ensures.store c.requires.right c.entries_at-2.ensures.listed).0.entries
