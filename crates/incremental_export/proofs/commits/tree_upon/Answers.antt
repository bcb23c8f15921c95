use Rattle.incremental_export.proofs.CommitChanges.{first_held, upon_none, upon_some}
use Rattle.incremental_export.proofs.commits.tree_upon.Goals as goal

pub returns-in-None-clause-tree : goal.returns-in-None-clause-tree
returns-in-None-clause-tree c = upon_none c.args.store.now c.args.commit.now.parents c.in-None.ensures

pub tree_of-requires : goal.tree_of-requires
tree_of-requires c = first_held c.args.store.now c.args.commit.now.parents c.in-Some.parent.0 c.in-Some.ensures c.requires

pub returns-in-Some-clause-tree : goal.returns-in-Some-clause-tree
returns-in-Some-clause-tree c = upon_some c.args.store.now c.args.commit.now.parents c.in-Some.parent.0 _ c.in-Some.ensures c.tree_of.ensures

pub returns-in-Some-clause-held : goal.returns-in-Some-clause-held
returns-in-Some-clause-held c = c.tree_of.ensures.held
